-- The refusal is the reader's, and of accepted bytes the card is written.
use borrow.Author.Rules.{rules}
use mathlib.Core.Path.{refl, sym, ◌∙◌}
use native.Mathlib.Omega.{arith}
use lib.ListN.{length}
use Rattle.wire.specs.Records.{Bytes}
use Rattle.card_writing.specs.Drafted.{card_fits, card_refused, card_counted}
use Rattle.card_writing.proofs.to_card.Goals as goal
use Rattle.card_writing.proofs.to_card.Goals.{After-shared_slice_known-1}

-- each byte is below 256
small : (c : After-shared_slice_known-1) → Bytes c.args.bytes.now
small c i = omega (arith, c.shared_slice_known-1.given i)

pub draft_card-requires : goal.draft_card-requires
draft_card-requires c =
    card_fits _ (small (goal.at.draft_card-requires c).After-shared_slice_known-1) (sym c.read-answer.ensures ∙ c.in-Counted.is)

pub returns-in-Refused : goal.returns-in-Refused
returns-in-Refused c =
    (card_refused _ (length c.args.room.now) (sym c.read-answer.ensures ∙ c.in-Refused.is), refl)

pub returns-in-Counted : goal.returns-in-Counted
returns-in-Counted c =
    (c.draft_card.ensures.0 ∙ card_counted _ _ (sym c.read-answer.ensures ∙ c.in-Counted.is), c.draft_card.ensures.1)
