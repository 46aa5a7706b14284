-- `smallest::left_in_parts` meets its contract. The rows passed are in parts.
use Rattle.smallest.specs.Codes.{PartsTo}
use Prim.Native.Nat.{◌*◌}
use Rattle.smallest.proofs.left_in_parts.Given as goal

abbrev pub invariant-loop-r : goal.invariant-loop-r
invariant-loop-r l = PartsTo l.side l.r (l.place * 196) l.row l.cells
