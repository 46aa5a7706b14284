-- Short rooms are kept; else the record that the row holds is scanned and put back, and the verdict is told.
use mathlib.Core.Path.{ap, ◌∙◌}
use mathlib.Core.Bool.{true, false}
use Rattle.answers.specs.Answered.{answered}
use Rattle.scans.specs.Answer.{scan_of}
use Rattle.rows.specs.Row.{with_record}
use Rattle.rows.specs.Asked.{asked_row, asked_room, asked_both}
use Rattle.scan.specs.Told.{verdict_numbers, running_left, answer_left}
use borrow.Author.Rules.{rules}
use Rattle.scan.proofs.scan_one.Goals as goal

pub returns-then-running-lt-RECORD : goal.returns-then-running-lt-RECORD
returns-then-running-lt-RECORD c =
    let a = c.args in
    let few = asked_row a.running.now a.answer.now c.if-running-lt-RECORD.true in
    (few, running_left a.table.now a.counter a.running.now a.answer.now false few, answer_left a.table.now a.counter a.running.now a.answer.now false few)

pub returns-then-answer-lt-PLACES : goal.returns-then-answer-lt-PLACES
returns-then-answer-lt-PLACES c =
    let a = c.args in
    let few = asked_room a.running.now a.answer.now c.if-running-lt-RECORD.false c.if-answer-lt-PLACES.true in
    (few, running_left a.table.now a.counter a.running.now a.answer.now false few, answer_left a.table.now a.counter a.running.now a.answer.now false few)

pub returns : goal.returns
returns c =
    let a = c.args in
    let both = asked_both a.running.now a.answer.now c.if-running-lt-RECORD.false c.if-answer-lt-PLACES.false in
    let is = c.scan-scanned.ensures ∙ ap (λ r. scan_of a.table.now r a.counter) c.record_in-record.ensures in (
      both,
      c.put_record.ensures ∙ ap (λ s. with_record a.running.now s.running) is ∙ running_left a.table.now a.counter a.running.now a.answer.now true both,
      c.put.ensures ∙ ap (answered a.answer.now) (c.verdict_numbers.ensures ∙ ap (λ s. verdict_numbers s.verdict) is)
          ∙ answer_left a.table.now a.counter a.running.now a.answer.now true both,
    )
