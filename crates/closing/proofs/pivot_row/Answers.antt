use Rattle.closing.specs.Rows.{row_same}
use Rattle.closing.proofs.pivot_row.Goals as goal

pub returns-then-first-eq-NONE : goal.returns-then-first-eq-NONE
returns-then-first-eq-NONE c = row_same c.requires c.if-first-eq-NONE.true
