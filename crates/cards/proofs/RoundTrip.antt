-- Accepted cards and accepted tables correspond one to one, and a card means the table that it is converted to.
use Rattle.std.specs.Prelude.{◌≡◌, refl, List, ℕ, ◌≤◌, ◌<◌, length}
use Rattle.std.proofs.Common.{sym, ◌∙◌, ap, subst, arith, le-leb}
use Rattle.std.proofs.Math.Decide.{dec_le}
use Rattle.std.proofs.lemmas.Bool.{lt-leb}
use Rattle.table.specs.declared.Fault.TheVariants as fault
use Rattle.table.specs.declared.Read.{Read}
use Rattle.table.specs.declared.Read.TheVariants as read
use Rattle.records.specs.Rules.{is_free, marked, headed, guarded, cleared, finished, ended}
use Rattle.records.specs.Checking.{start, check_of}
use Rattle.text.specs.Decimal.{digits, value_from}
use Rattle.wire.specs.Records.{Bytes, records_from, records}
use Rattle.wire.specs.Reading.{check, read_of}
use Rattle.wire.specs.Laws.{read_short, counted_short}
use Rattle.wire.specs.Listing.{listing, Content}
use Rattle.format.specs.Encode.{step_bytes, steps_bytes, encode}
use Rattle.format.proofs.Longest.{longest, full_step, full}
use Rattle.format.proofs.Accepted.{Written, written_checked, accepted_written}
use Rattle.format.specs.Shapes.{refused_counted}
use Rattle.cards.specs.Words.{same, is_digits, is_number, onto, pieces}
use Rattle.cards.specs.Card.{says, lines_from, lines_at, check_lines, card_read}
use Rattle.cards.specs.Convert.{table_of, text_of, card_of}
use Rattle.cards.specs.Contents.{PlainContents, bytes_for, text_for, recorded, records_for, lines_for, card_for}
use Rattle.cards.proofs.Lined.{table_for}
use Rattle.cards.specs.Alike.{SameRead, both_refuse, both_count, check_alike}
use Rattle.cards.specs.Accepted.{Says, counted_says}
use Rattle.cards.specs.Small.{counted_small}
use Rattle.cards.specs.Listed.{contents_of, contents_bytes, contents_plain, card_longest}

-- A card and a table that are converted into each other: both are accepted, with the same counts.
pub record Corresponds (text bytes : List ℕ) (n l g : ℕ) : Type 0 where
  pub card : card_read text ≡ read.Counted n l g
  pub table : read_of bytes ≡ read.Counted n l g
  pub to_table_lem : table_of text ≡ bytes
  pub to_card_lem : card_of bytes ≡ text
  pub small : Bytes bytes
  pub table_length : length bytes ≤ 531
  pub card_length : length text ≤ 1405

-- the answer of a card that is too long, and of one that is not
pub card_long : (text : List ℕ) → 16384 < length text → card_read text ≡ read.Refused (record { fault = fault.Card; place = 16384 })
unfolding card_read
card_long text h = simp (lt-leb (length text) 16384 h)

pub card_short : (text : List ℕ) → length text ≤ 16384 → card_read text ≡ check_lines (length text) start (lines_at 0 text)
unfolding card_read
card_short text h = simp (le-leb (length text) 16384 h)

card_counted_short : (text : List ℕ) (n l g : ℕ) → card_read text ≡ read.Counted n l g → length text ≤ 16384
card_counted_short text n l g e = go (dec_le (length text) 16384)
  where
    go : Dec (length text ≤ 16384) → length text ≤ 16384
    go (yes h) = h
    go (no h) = refused_counted (sym (card_long text (omega arith)) ∙ e)

counted_right : {a b : Read} {n l g : ℕ} → SameRead a b → a ≡ read.Counted n l g → b ≡ read.Counted n l g
counted_right (both_refuse f p q) e = refused_counted e
counted_right (both_count m k h) e = e

counted_left : {a b : Read} {n l g : ℕ} → SameRead a b → b ≡ read.Counted n l g → a ≡ read.Counted n l g
counted_left (both_refuse f p q) e = refused_counted e
counted_left (both_count m k h) e = e

module _ (n l g : ℕ) where
  -- contents that a table counts
  counted_both : (cs : List Content) → PlainContents cs → Bytes (bytes_for cs)
      → check (length (bytes_for cs)) start (recorded 0 cs) ≡ read.Counted n l g → Corresponds (text_for cs) (bytes_for cs) n l g
  counted_both cs plain small e = record {
    card =
        card_short (text_for cs) (omega (arith, few)) ∙ ap (check_lines (length (text_for cs)) start) (lines_for 0 cs plain)
        ∙ counted_left (check_alike (length (text_for cs)) (length (bytes_for cs)) cs start 0 0 refl) e;
    table = read_short (bytes_for cs) (omega (arith, short)) ∙ counted;
    to_table_lem = table_for cs plain;
    to_card_lem = card_for cs plain;
    small = small;
    table_length = short;
    card_length = few;
  }
    where
      counted : check (length (bytes_for cs)) start (records (bytes_for cs)) ≡ read.Counted n l g
      counted = ap (check (length (bytes_for cs)) start) (records_for 0 cs) ∙ e

      w : Written (listing (bytes_for cs)) (bytes_for cs) n l g
      w = written_checked (bytes_for cs) small n l g counted

      short : length (bytes_for cs) ≤ 531
      short = subst (λ bs. length bs ≤ 531) w.written (longest (listing (bytes_for cs)) w.legal)

      same : text_for (contents_of (listing (bytes_for cs))) ≡ text_for cs
      same =
          sym (card_for (contents_of (listing (bytes_for cs))) (contents_plain (listing (bytes_for cs)) w.legal))
          ∙ ap card_of (contents_bytes (listing (bytes_for cs)) ∙ w.written) ∙ card_for cs plain

      few : length (text_for cs) ≤ 1405
      few = subst (λ s. length s ≤ 1405) same (card_longest (listing (bytes_for cs)) w.legal)

  -- An accepted table corresponds to the card that it is converted to: it goes there and returns byte for byte.
  pub table_card : (bytes : List ℕ) → Bytes bytes → read_of bytes ≡ read.Counted n l g → Corresponds (card_of bytes) bytes n l g
  table_card bytes small e = subst (λ s. Corresponds s bytes n l g) (sym (ap card_of is ∙ card_for cs plain)) whole
    where
      w : Written (listing bytes) bytes n l g
      w = accepted_written bytes small n l g e

      cs : List Content
      cs = contents_of (listing bytes)

      plain : PlainContents cs
      plain = contents_plain (listing bytes) w.legal

      is : bytes ≡ bytes_for cs
      is = sym (contents_bytes (listing bytes) ∙ w.written)

      whole : Corresponds (text_for cs) bytes n l g
      whole =
          subst (λ bs. Corresponds (text_for cs) bs n l g) (sym is)
          (counted_both cs plain (subst Bytes is small)
          (ap (check (length (bytes_for cs)) start) (sym (records_for 0 cs))
          ∙ subst (λ bs. check (length bs) start (records bs) ≡ read.Counted n l g) is
          (sym (read_short bytes (counted_short bytes n l g e)) ∙ e)))

  -- An accepted card corresponds to the table that it is converted to: it goes there and returns character for character.
  pub card_table : (text : List ℕ) → card_read text ≡ read.Counted n l g → Corresponds text (table_of text) n l g
  card_table text e = subst (λ bs. Corresponds text bs n l g) (sym (ap table_of s.text ∙ table_for s.contents s.plain)) whole
    where
      due : check_lines (length text) start (lines_at 0 text) ≡ read.Counted n l g
      due = sym (card_short text (card_counted_short text n l g e)) ∙ e

      s : Says text
      s = counted_says (length text) n l g (lines_at 0 text) start 0 text refl due

      counted : check (length (bytes_for s.contents)) start (recorded 0 s.contents) ≡ read.Counted n l g
      counted =
          counted_right (check_alike (length text) (length (bytes_for s.contents)) s.contents start 0 0 refl)
          (ap (check_lines (length text) start) (sym (lines_for 0 s.contents s.plain) ∙ ap (lines_at 0) (sym s.text)) ∙ due)

      whole : Corresponds text (bytes_for s.contents) n l g
      whole =
          subst (λ t. Corresponds t (bytes_for s.contents) n l g) (sym s.text)
          (counted_both s.contents s.plain
          (counted_small (length (bytes_for s.contents)) n l g s.contents start 0 (omega arith) counted) counted)

-- So no two accepted cards have the same table, and no two accepted tables the same card.
pub one_card : (n l g n' l' g' : ℕ) (s s' : List ℕ) → card_read s ≡ read.Counted n l g → card_read s' ≡ read.Counted n' l' g'
    → table_of s ≡ table_of s' → s ≡ s'
one_card n l g n' l' g' s s' e e' is =
    sym (card_table n l g s e).to_card_lem ∙ ap card_of is ∙ (card_table n' l' g' s' e').to_card_lem

pub one_table : (n l g n' l' g' : ℕ) (b b' : List ℕ) → Bytes b → Bytes b' → read_of b ≡ read.Counted n l g → read_of b' ≡ read.Counted n' l' g'
    → card_of b ≡ card_of b' → b ≡ b'
one_table n l g n' l' g' b b' h h' e e' is =
    sym (table_card n l g b h e).to_table_lem ∙ ap table_of is ∙ (table_card n' l' g' b' h' e').to_table_lem

-- One card has 1,405 bytes, and its table 531.
pub full_card : (length (card_of full) ≡ 1405) × (card_read (card_of full) ≡ read.Counted 6 16 64)
unfolding full full_step encode steps_bytes step_bytes records_from card_of text_of digits card_read lines_from says pieces onto same is_number is_digits value_from check_of headed guarded cleared finished ended is_free marked
full_card = (refl, refl)
