-- The answer for a card, by what drafting it comes to.
use Rattle.std.specs.Prelude.{◌≡◌, List, ℕ, ◌≤◌, ◌<◌, length, take}
use Rattle.std.proofs.Common.{sym, ◌∙◌, ap, subst, arith}
use Rattle.table.specs.declared.Fault.TheVariants as fault
use Rattle.table.specs.declared.Read.{Read}
use Rattle.table.specs.declared.Refusal.{Refusal}
use Rattle.cards.specs.declared.Converted.{Converted}
use Rattle.cards.specs.declared.Converted.TheVariants.{Written, Refused}
use Rattle.cards.specs.Card.{card_read}
use Rattle.cards.specs.Convert.{table_of, answer_of, room_after, to_table}
use Rattle.cards.specs.Handed.{Handed, draft_handed}
use Rattle.cards.proofs.RoundTrip.{card_long, card_table}
use Rattle.card_reading.specs.Drafted.{Drafted, refuses, drafts}

-- the answer, by what is read
told : (text : List ℕ) (size : ℕ) {r : Read} → card_read text ≡ r → answer_of r (table_of text) size ≡ to_table text size
unfolding to_table
told text size e = ap (λ a. answer_of a (table_of text) size) (sym e)

pub card_too_long : (text : List ℕ) (size : ℕ) → 16384 < length text
    → Refused (record { fault = fault.Card; place = 16384 }) ≡ to_table text size
card_too_long text size h = told text size (card_long text h)

module _ {text before : List ℕ} where
  refused : (size : ℕ) {f : Refusal} {after : List ℕ} → Drafted text before (Refused f) after → Refused f ≡ to_table text size
  refused size (refuses _ _ e) = told text size e

  fits : {m : ℕ} {after : List ℕ} → Drafted text before (Written m) after → m ≤ 531
  fits (drafts n l g m _ e w) = let h = (card_table n l g text e).table_length in omega (arith, w.place)

  over : {m : ℕ} {draft : List ℕ} → Drafted text before (Written m) draft → 531 ≤ length before
      → (room after : List ℕ) (a : Converted) → Handed m (take m draft) room after a
      → (a ≡ to_table text (length room)) × (after ≡ room_after a (table_of text) room)
  over (drafts n l g m _ e w) long room after a h =
      let size = (card_table n l g text e).table_length in
      let given = draft_handed m (table_of text) room after a w (omega (arith, w.place)) h in
      (given.0 ∙ told text (length room) e, given.1)

  -- What is drafted is refused, or has room in the draft and is handed over.
  module _ {d : Converted} {draft : List ℕ} (drafted : Drafted text before d draft) where
    pub card_refused : (size : ℕ) {f : Refusal} → d ≡ Refused f → Refused f ≡ to_table text size
    card_refused size is = refused size (subst (λ x. Drafted text before x draft) is drafted)

    pub table_fits : {m : ℕ} → d ≡ Written m → m ≤ 531
    table_fits is = fits (subst (λ x. Drafted text before x draft) is drafted)

    pub card_handed : {m : ℕ} → d ≡ Written m → 531 ≤ length before
        → (room after : List ℕ) (a : Converted) → Handed m (take m draft) room after a
        → (a ≡ to_table text (length room)) × (after ≡ room_after a (table_of text) room)
    card_handed is = over (subst (λ x. Drafted text before x draft) is drafted)
