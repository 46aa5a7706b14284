-- `closing::close` meets its contract. Before pivot p the cells are those after the pivots before it.
use Rattle.zones.specs.Cells.{matrix}
use Rattle.zones.specs.Matrix.{Pivots}
use lib.ListN.{length}
use mathlib.Core.Path.{◌≡◌}
use Rattle.closing.proofs.close.Given as goal

abbrev pub invariant-loop-p : goal.invariant-loop-p
invariant-loop-p l =
    (length l.cells ≡ 441) × Pivots l.size l.from (matrix l.initial.cells) l.p (matrix l.cells)
