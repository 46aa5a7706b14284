-- `stretches::is_between` meets its contract.
use borrow.Author.Tests.{eq-eqb, ne_eqb}
use Rattle.stretches.proofs.is_between.Goals as goal

pub returns-then-k-eq5 : goal.returns-then-k-eq5
returns-then-k-eq5 c = rw (eq-eqb _ _ c.if-k-eq5.true)

pub returns : goal.returns
returns c = rw (ne_eqb _ _ c.if-k-eq5.false) c.between.ensures
