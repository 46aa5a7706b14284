-- A short answer room keeps both rooms; else the card is written as the table says, and the answer told.
use mathlib.Core.Path.{ap, ◌∙◌}
use lib.ListN.{length}
use Rattle.answers.specs.Answered.{answered, short, roomy_yes}
use Rattle.cards.specs.Convert.{card_of, to_card}
use Rattle.card.specs.Told.{converted_numbers, kept, told}
use borrow.Author.Rules.{rules}
use Rattle.card.proofs.card_from_table.Goals as goal

pub returns-then-answer-lt-PLACES : goal.returns-then-answer-lt-PLACES
returns-then-answer-lt-PLACES c =
    let a = c.args in
    let left = kept a.answer.now (card_of a.table.now) a.card.now (to_card a.table.now (length a.card.now)) c.if-answer-lt-PLACES.true in
    (short a.answer.now c.if-answer-lt-PLACES.true, left.0, left.1)

pub returns : goal.returns
returns c =
    let a = c.args in
    let room = c.if-answer-lt-PLACES.false in (
      roomy_yes a.answer.now room,
      told a.answer.now (card_of a.table.now) a.card.now (to_card a.table.now (length a.card.now)) c.to_card-converted.result _ room
          c.to_card-converted.ensures.0 c.to_card-converted.ensures.1,
      c.put.ensures
          ∙ ap (answered a.answer.now) (c.converted_numbers.ensures ∙ ap converted_numbers c.to_card-converted.ensures.0),
    )
