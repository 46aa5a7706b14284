-- Short rooms are kept; else the tray is given to the record that the row holds, the record is put back, and the outcome is told.
use mathlib.Core.Path.{ap, ◌∙◌}
use mathlib.Core.Bool.{true, false}
use lib.ListN.{length}
use Rattle.answers.specs.Answered.{answered}
use Rattle.trays.specs.Answer.{outcome_of, running_of, verdicts_of}
use Rattle.rows.specs.Row.{with_record}
use Rattle.rows.specs.Asked.{asked_row, asked_room, asked_both}
use Rattle.tray.specs.Told.{outcome_numbers, rooms_left}
use borrow.Author.Rules.{rules}
use Rattle.tray.proofs.tray_scan.Goals as goal

pub returns-then-running-lt-RECORD : goal.returns-then-running-lt-RECORD
returns-then-running-lt-RECORD c =
    let a = c.args in
    let few = asked_row a.running.now a.answer.now c.if-running-lt-RECORD.true in
    let left = rooms_left a.table.now a.counters.now a.running.now a.verdicts.now a.answer.now false few in
    (few, left.0, left.1, left.2)

pub returns-then-answer-lt-PLACES : goal.returns-then-answer-lt-PLACES
returns-then-answer-lt-PLACES c =
    let a = c.args in
    let few = asked_room a.running.now a.answer.now c.if-running-lt-RECORD.false c.if-answer-lt-PLACES.true in
    let left = rooms_left a.table.now a.counters.now a.running.now a.verdicts.now a.answer.now false few in
    (few, left.0, left.1, left.2)

pub returns : goal.returns
returns c =
    let a = c.args in
    let both = asked_both a.running.now a.answer.now c.if-running-lt-RECORD.false c.if-answer-lt-PLACES.false in
    let left = rooms_left a.table.now a.counters.now a.running.now a.verdicts.now a.answer.now true both in
    let is = c.record_in-record.ensures in
    let outcome = c.tray-trayed.ensures.0 ∙ ap (λ r. outcome_of a.table.now r a.counters.now (length a.verdicts.now)) is in
    let running = c.tray-trayed.ensures.1 ∙ ap (λ r. running_of a.table.now r a.counters.now (length a.verdicts.now)) is in
    let verdicts = c.tray-trayed.ensures.2 ∙ ap (λ r. verdicts_of a.table.now r a.counters.now a.verdicts.now) is in (
      both,
      c.put_record.ensures ∙ ap (with_record a.running.now) running ∙ left.0,
      verdicts ∙ left.1,
      c.put.ensures ∙ ap (answered a.answer.now) (c.outcome_numbers.ensures ∙ ap outcome_numbers outcome) ∙ left.2,
    )
