-- The room is the list of the definition.
use Rattle.std.proofs.Common.{arith}
use Rattle.basics.specs.Tab.{is_tab}
use Rattle.testkit.specs.Filled.{filled_of}
use Rattle.testkit.proofs.fill.Goals as goal

pub returns : goal.returns
unfolding filled_of
returns c = is_tab _ _ _ c.loop-k.auto.out (λ k h. c.loop-k.invariant k (omega arith))
