use Rattle.scaling.specs.Filling.{scaling_first, scaling_last}
use Rattle.scaling.proofs.put_scaled.Goals as goal

pub loop-i-init : goal.loop-i-init
loop-i-init c = rw c.requires.2 (scaling_first c.args.parts c.args.t c.requires.0)

pub returns : goal.returns
returns c =
    scaling_last c.args.parts c.args.t c.requires.0 _ c.loop-i.i c.loop-i.invariant c.loop-i-test.false
