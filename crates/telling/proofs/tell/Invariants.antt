-- `telling::tell` meets its contract. The rows passed are told.
use Rattle.telling.specs.Told.{ToldTo}
use Prim.Native.Nat.{◌*◌}
use Rattle.telling.proofs.tell.Given as goal

abbrev pub invariant-loop-r : goal.invariant-loop-r
invariant-loop-r l =
    ToldTo l.size (l.place * 196) l.r l.row l.initial.bounds l.bounds l.initial.marks l.marks
