-- `joins::keep` meets its contract. The lines passed are kept.
use Rattle.joins.specs.Keeping.{LinesTo}
use Prim.Native.Nat.{◌+◌, ◌*◌}
use Rattle.joins.proofs.keep.Given as goal

abbrev pub invariant-loop-r : goal.invariant-loop-r
invariant-loop-r l = LinesTo (l.side + l.side) (l.place * 196) l.r l.out l.initial.row l.row
