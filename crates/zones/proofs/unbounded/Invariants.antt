-- `zones::unbounded` meets its contract. The places passed of the diagonal are stored.
use Rattle.zones.specs.Cells.{Diagonal}
use Rattle.zones.proofs.unbounded.Given as goal

abbrev pub invariant-loop-i : goal.invariant-loop-i
invariant-loop-i l = Diagonal l.size l.i l.cells
