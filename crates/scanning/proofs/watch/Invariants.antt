-- `scanning::watch` meets its contract: the answer due from the records left is that of the whole table, and so is what is found of the
-- step. The measure is what is left of the bytes.
use mathlib.Core.Path.{◌≡◌}
use Prim.Native.Nat.{◌≤◌, ◌-◌}
use lib.ListN.{length}
use Rattle.wire.specs.Records.{records_at}
use Rattle.wire.specs.Reading.{check, read_of}
use Rattle.scanning.specs.Progress.{followed, progress_of}
use Rattle.scanning.specs.Safe.{Few}
use Rattle.scanning.proofs.watch.Given as goal

abbrev pub invariant-loop-at : goal.invariant-loop-at
invariant-loop-at l =
    (length l.bytes ≤ 4096)
    × Few l.t
    × (check (length l.bytes) l.t (records_at l.bytes l.at) ≡ read_of l.bytes)
    × (followed l.step l.readings l.ticks l.t l.p (records_at l.bytes l.at) ≡ progress_of l.step l.readings l.ticks l.bytes)

abbrev pub decreases-loop-at : goal.decreases-loop-at
decreases-loop-at l = length l.bytes - l.at
