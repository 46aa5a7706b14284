-- `closing::pivot` meets its contract. The rows passed are pivoted.
use Rattle.closing.specs.Rows.{RowsTo}
use Rattle.closing.proofs.pivot.Given as goal

abbrev pub invariant-loop-a : goal.invariant-loop-a
invariant-loop-a l = RowsTo l.size l.p l.a l.initial.cells l.cells
