-- `stretches::read_step` meets its contract: the answer of the records from the step's place on is that from the place reached.
use Prim.Native.Nat.{◌-◌}
use lib.ListN.{length}
use Rattle.stretches.specs.Steps.{UpTo}
use Rattle.stretches.proofs.read_step.Given as goal

abbrev pub invariant-loop-at : goal.invariant-loop-at
invariant-loop-at l = UpTo l.bytes l.from l.initial.t l.depth l.at l.t

abbrev pub decreases-loop-at : goal.decreases-loop-at
decreases-loop-at l = length l.bytes - l.at
