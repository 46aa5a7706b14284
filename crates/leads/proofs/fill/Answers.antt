use Rattle.leads.specs.Filling.{filling_first, filling_last}
use Rattle.leads.proofs.fill.Goals as goal

pub loop-s-init : goal.loop-s-init
loop-s-init c = rw c.requires.2 (filling_first c.args.t c.requires.0 c.args.constants.now)

pub returns : goal.returns
returns c =
    filling_last c.args.t c.requires.0 c.args.constants.now _ _ _ _ c.loop-s.invariant c.loop-s-test.false
