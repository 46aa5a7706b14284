-- Each kind is judged as the definition says.
use borrow.Author.Rules.{rules}
use borrow.Author.Tests.{ne_eqb}
use Rattle.card_reading.specs.Judged.{taken_of}
use Rattle.card_reading.proofs.take_found.Goals as goal

pub returns-then-f-eq1 : goal.returns-then-f-eq1
unfolding taken_of
returns-then-f-eq1 c = simp c.if-f-eq1.true c.take_head.ensures

pub returns-then-f-eq2 : goal.returns-then-f-eq2
unfolding taken_of
returns-then-f-eq2 c = simp c.if-f-eq2.true c.take_guard.ensures

pub returns-then-f-eq3 : goal.returns-then-f-eq3
unfolding taken_of
returns-then-f-eq3 c = simp c.if-f-eq3.true c.take_reset.ensures

pub returns-then-f-eq4 : goal.returns-then-f-eq4
unfolding taken_of
returns-then-f-eq4 c = simp c.if-f-eq4.true c.take_step.ensures

pub returns : goal.returns
unfolding taken_of
returns c =
    let k = c.args.f.kind in
    simp (
      ne_eqb k 1 c.if-f-eq1.false,
      ne_eqb k 2 c.if-f-eq2.false,
      ne_eqb k 3 c.if-f-eq3.false,
      ne_eqb k 4 c.if-f-eq4.false,
    )
    c.take_end.ensures
