-- `card_reading::draft_table` meets its contract: the front of the draft is the card's table.
use borrow.Author.Rules.{rules}
use mathlib.Core.Path.{refl}
use native.Mathlib.Omega.{arith}
use Rattle.card_reading.specs.Answered.{card_refused, table_fits, card_handed}
use Rattle.card_reading.proofs.draft_table.Goals as goal

pub hand_over-requires : goal.hand_over-requires
hand_over-requires c =
    search (rules, table_fits c.draft-drafted.ensures c.in-Written.is)

pub returns-in-Refused : goal.returns-in-Refused
returns-in-Refused c =
    (card_refused c.draft-drafted.ensures _ c.in-Refused.is, refl)

pub returns-in-Written : goal.returns-in-Written
returns-in-Written c =
    card_handed c.draft-drafted.ensures c.in-Written.is (omega arith) _ _ _ c.hand_over.ensures
