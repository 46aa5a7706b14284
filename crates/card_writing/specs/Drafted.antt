-- The card of an accepted table has room in a draft, and the answer that is given for a table.
use Rattle.std.specs.Prelude.{◌≡◌, List, ℕ, ◌≤◌, length}
use Rattle.std.proofs.Common.{sym, arith}
use Rattle.std.proofs.Math.Path.{ap}
use Rattle.table.specs.declared.Read.TheVariants as read
use Rattle.table.specs.declared.Refusal.{Refusal}
use Rattle.wire.specs.Records.{Bytes}
use Rattle.wire.specs.Reading.{read_of}
use Rattle.cards.specs.declared.Converted.TheVariants.{Refused}
use Rattle.cards.specs.Convert.{card_of, handed, answer_of, to_card}
use Rattle.cards.proofs.RoundTrip.{table_card}

module _ (bytes : List ℕ) where
  -- the card of an accepted table has room in a draft
  pub card_fits : Bytes bytes → {n l g : ℕ} → read_of bytes ≡ read.Counted n l g
      → (length bytes ≤ 4096) × (length (card_of bytes) ≤ 1405)
  card_fits small {n} {l} {g} e =
      let both = table_card n l g bytes small e in
      (omega (arith, both.table_length), both.card_length)

  -- the answer, by what the reader says
  pub card_refused : (size : ℕ) {f : Refusal} → read_of bytes ≡ read.Refused f → Refused f ≡ to_card bytes size
  unfolding to_card
  card_refused size e = ap (λ a. answer_of a (card_of bytes) size) (sym e)

  pub card_counted : (size : ℕ) {n l g : ℕ} → read_of bytes ≡ read.Counted n l g
      → handed (length (card_of bytes)) size ≡ to_card bytes size
  unfolding to_card
  card_counted size e = ap (λ a. answer_of a (card_of bytes) size) (sym e)
