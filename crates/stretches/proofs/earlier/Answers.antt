-- One test.
use borrow.Author.Tests.{eq-eqb, ne_eqb}
use Rattle.stretches.specs.Whole.{first_by}
use Rattle.stretches.proofs.earlier.Goals as goal

pub returns-then-first-len : goal.returns-then-first-len
unfolding first_by
returns-then-first-len c = rw (eq-eqb _ _ c.if-first-len.true)

pub returns : goal.returns
unfolding first_by
returns c = rw (ne_eqb _ _ c.if-first-len.false)
