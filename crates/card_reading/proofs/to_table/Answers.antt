-- `card_reading::to_table` meets its contract: a card that is too long is refused first.
use borrow.Author.Rules.{rules}
use mathlib.Core.Path.{refl}
use Rattle.card_reading.specs.Answered.{card_too_long}
use Rattle.card_reading.proofs.to_table.Goals as goal

pub returns-then-text-gt-MOST : goal.returns-then-text-gt-MOST
returns-then-text-gt-MOST c = (card_too_long _ _ c.if-text-gt-MOST.true, refl)

pub returns : goal.returns
returns c = c.draft_table.ensures
