use Rattle.sides.specs.Filled.{filled_first, filled_last}
use Rattle.sides.proofs.put_keys.Goals as goal

pub loop-s-init : goal.loop-s-init
loop-s-init c = rw c.requires.2 (filled_first c.args.upper c.args.t c.requires.0 c.args.constants.now)

pub returns : goal.returns
returns c =
    filled_last c.args.upper c.args.t c.requires.0 c.args.constants.now _ _ _ c.loop-s.invariant c.loop-s-test.false
