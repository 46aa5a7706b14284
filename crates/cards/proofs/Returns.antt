-- The answers of the two conversions: what was written goes back as it was, and which rooms suffice.
use Rattle.std.specs.Prelude.{◌≡◌, refl, List, ℕ, ◌≤◌, length}
use Rattle.std.proofs.Common.{◌∙◌, ap, arith, le-leb}
use Rattle.table.specs.declared.Read.{Read}
use Rattle.table.specs.declared.Read.TheVariants as read
use Rattle.wire.specs.Records.{Bytes}
use Rattle.wire.specs.Reading.{read_of}
use Rattle.cards.specs.declared.Converted.TheVariants.{Written, Refused}
use Rattle.cards.specs.Card.{card_read}
use Rattle.cards.specs.Convert.{table_of, card_of, handed, answer_of, to_table, to_card}
use Rattle.cards.proofs.RoundTrip.{Corresponds, table_card, card_table}

-- what was converted was counted
pub record Counted (r : Read) : Type 0 where
  pub clocks : ℕ
  pub steps : ℕ
  pub guards : ℕ
  pub is : r ≡ read.Counted clocks steps guards

written_counted : (r : Read) (out : List ℕ) (size m : ℕ) → answer_of r out size ≡ Written m → Counted r
written_counted (read.Refused f) out size m e = let z : ◌≡◌ {A = ℕ} 0 1 = cc in absurd (omega arith)
written_counted (read.Counted n l g) out size m e = record { clocks = n; steps = l; guards = g; is = refl }

-- what is counted is written where there is room
enough : (r : Read) (n l g : ℕ) (out : List ℕ) (size : ℕ) → r ≡ read.Counted n l g → length out ≤ size
    → answer_of r out size ≡ Written (length out)
unfolding handed
enough r n l g out size e h = ap (λ x. answer_of x out size) e ∙ simp (le-leb (length out) size h)

-- A card of 1,405 places and a table of 531 are room enough for what is accepted.
pub table_room : (text : List ℕ) (n l g size : ℕ) → card_read text ≡ read.Counted n l g → 531 ≤ size
    → to_table text size ≡ Written (length (table_of text))
unfolding to_table
table_room text n l g size e h =
    let few = (card_table n l g text e).table_length in
    enough (card_read text) n l g (table_of text) size e (omega arith)

pub card_room : (bytes : List ℕ) → Bytes bytes → (n l g size : ℕ) → read_of bytes ≡ read.Counted n l g → 1405 ≤ size
    → to_card bytes size ≡ Written (length (card_of bytes))
unfolding to_card
card_room bytes small n l g size e h =
    let few = (table_card n l g bytes small e).card_length in
    enough (read_of bytes) n l g (card_of bytes) size e (omega arith)

-- A table that was converted returns byte for byte, to any room that has its length.
pub table_returns : (bytes : List ℕ) → Bytes bytes → (size m room : ℕ) → to_card bytes size ≡ Written m → length bytes ≤ room
    → (to_table (card_of bytes) room ≡ Written (length bytes)) × (table_of (card_of bytes) ≡ bytes)
unfolding to_card to_table
table_returns bytes small size m room e h = (
  enough (card_read (card_of bytes)) _ _ _ (table_of (card_of bytes)) room both.card (omega (arith, ap length both.to_table_lem))
      ∙ ap (λ b. Written (length b)) both.to_table_lem,
  both.to_table_lem,
)
  where
    read : Counted (read_of bytes)
    read = written_counted (read_of bytes) (card_of bytes) size m e

    both : Corresponds (card_of bytes) bytes (read).clocks (read).steps (read).guards
    both = table_card (read).clocks (read).steps (read).guards bytes small (read).is

-- A card that was converted returns character for character.
pub card_returns : (text : List ℕ) (size m room : ℕ) → to_table text size ≡ Written m → length text ≤ room
    → (to_card (table_of text) room ≡ Written (length text)) × (card_of (table_of text) ≡ text)
unfolding to_card to_table
card_returns text size m room e h = (
  enough (read_of (table_of text)) _ _ _ (card_of (table_of text)) room both.table (omega (arith, ap length both.to_card_lem))
      ∙ ap (λ s. Written (length s)) both.to_card_lem,
  both.to_card_lem,
)
  where
    read : Counted (card_read text)
    read = written_counted (card_read text) (table_of text) size m e

    both : Corresponds text (table_of text) (read).clocks (read).steps (read).guards
    both = card_table (read).clocks (read).steps (read).guards text (read).is
