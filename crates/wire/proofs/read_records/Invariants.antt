-- `wire::read_records` meets its contract: the answer due from the records left is that of the whole table. The measure is what is left
-- of the bytes.
use mathlib.Core.Path.{◌≡◌}
use Prim.Native.Nat.{◌≤◌, ◌-◌}
use lib.ListN.{length}
use Rattle.wire.specs.Records.{records_at}
use Rattle.wire.specs.Reading.{check, read_of}
use Rattle.wire.proofs.read_records.Given as goal

abbrev pub invariant-loop-at : goal.invariant-loop-at
invariant-loop-at l = (length l.bytes ≤ 4096) × (check (length l.bytes) l.t (records_at l.bytes l.at) ≡ read_of l.bytes)

abbrev pub decreases-loop-at : goal.decreases-loop-at
decreases-loop-at l = length l.bytes - l.at
