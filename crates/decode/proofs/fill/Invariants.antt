-- `decode::fill` meets its contract: the table so far, with the records left, fills in as the empty one with all of them, and has at most 16 steps.
-- The measure is what is left of the bytes.
use mathlib.Core.Path.{◌≡◌}
use Prim.Native.Nat.{◌-◌}
use lib.ListN.{length}
use Rattle.wire.specs.Records.{records_at}
use Rattle.filling.specs.Filling.{empty}
use Rattle.decode.specs.Fill.{filled}
use Rattle.decode.specs.Few.{Few}
use Rattle.decode.proofs.fill.Given as goal

abbrev pub invariant-loop-at : goal.invariant-loop-at
invariant-loop-at l =
    (filled l.t (records_at l.bytes l.at) ≡ filled empty (records_at l.bytes 0)) × Few l.t

abbrev pub decreases-loop-at : goal.decreases-loop-at
decreases-loop-at l = length l.bytes - l.at
