-- `closing::pivot_row` meets its contract. The columns passed are pivoted.
use Rattle.closing.specs.Rows.{RowReady, RowTo}
use Rattle.zones.specs.Cells.{cell}
use mathlib.Core.Path.{◌≡◌}
use Rattle.closing.proofs.pivot_row.Given as goal

abbrev pub invariant-loop-b : goal.invariant-loop-b
invariant-loop-b l =
    (l.first ≡ cell l.initial.cells l.a l.p) × RowReady l.size l.a l.p l.initial.cells × RowTo l.size l.a l.p l.b l.initial.cells l.cells
