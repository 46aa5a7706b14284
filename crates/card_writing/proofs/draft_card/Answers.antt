-- What is drafted is the card, and what is handed over is the draft's front.
use borrow.Author.Rules.{rules}
use Rattle.cards.specs.Handed.{draft_handed}
use Rattle.card_writing.proofs.draft_card.Goals as goal

pub returns : goal.returns
returns c =
    draft_handed c.put_card-n.result _ _ _ _ c.put_card-n.ensures (search rules) c.hand_over.ensures
