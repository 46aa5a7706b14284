-- `stretches::read_records` meets its contract: the answer due from the place reached is that from the first. The measure is what is
-- left of the bytes.
use Prim.Native.Nat.{◌-◌}
use lib.ListN.{length}
use Rattle.stretches.specs.Outside.{UpTo}
use Rattle.stretches.proofs.read_records.Given as goal

abbrev pub invariant-loop-at : goal.invariant-loop-at
invariant-loop-at l = UpTo l.bytes l.from l.initial.t l.at l.t

abbrev pub decreases-loop-at : goal.decreases-loop-at
decreases-loop-at l = length l.bytes - l.at
