-- Card to table and table to card: what is written, and the answers.
use Rattle.std.specs.Prelude.{cond, List, [], ◌∷◌, ◌++◌, ℕ, suc, leb, length, drop}
use Rattle.std.proofs.Math.Option.{Option, none, some}
use Rattle.table.specs.Refusal.{placeless}
use Rattle.table.specs.declared.Fault.TheVariants as fault
use Rattle.table.specs.declared.Read.{Read}
use Rattle.table.specs.declared.Read.TheVariants as read
use Rattle.table.specs.declared.Relation.{Relation}
use Rattle.table.specs.declared.Relation.TheVariants.{Under, AtMost, Exactly, AtLeast, Over}
use Rattle.text.specs.Decimal.{digits}
use Rattle.wire.specs.Records.{Record, records}
use Rattle.wire.specs.Reading.{read_of}
use Rattle.wire.specs.Listing.{guard, reset, Content, head, entry, finish, close, content_of}
use Rattle.format.specs.Encode.{entry_bytes}
use Rattle.cards.specs.declared.Converted.{Converted}
use Rattle.cards.specs.declared.Converted.TheVariants.{Written, Refused}
use Rattle.cards.specs.Words.{timers_word, zero_word, step_word, end_word, under_sign, at_most_sign, exactly_sign, at_least_sign, over_sign}
use Rattle.cards.specs.Card.{Line, lines_at, card_read}

-- what a record says, in the bytes of a table
abbrev pub record_bytes : Content → List ℕ
record_bytes (head n) = 1 ∷ n ∷ []
record_bytes (entry e) = entry_bytes e
record_bytes finish = 4 ∷ []
record_bytes close = 5 ∷ []

-- a number in decimal, of any length
abbrev pub numeral : ℕ → List ℕ
numeral x = digits (suc x) x

abbrev pub sign_of : Relation → List ℕ
sign_of Under = under_sign
sign_of AtMost = at_most_sign
sign_of Exactly = exactly_sign
sign_of AtLeast = at_least_sign
sign_of Over = over_sign

-- the same in a line of a card, without its line feed
abbrev pub line_text : Content → List ℕ
line_text (head n) = timers_word ++ 32 ∷ numeral n
line_text (entry (guard g)) = numeral g.clock ++ 32 ∷ sign_of g.relation ++ 32 ∷ numeral g.constant
line_text (entry (reset j)) = zero_word ++ 32 ∷ numeral j
line_text finish = step_word
line_text close = end_word

-- the table that lines write down: a record for each, in their order
abbrev pub line_bytes : Option Content → List ℕ
line_bytes none = []
line_bytes (some c) = record_bytes c

unfoldable pub bytes_of : List Line → List ℕ
bytes_of [] = []
bytes_of (l ∷ ls) = line_bytes l.content ++ bytes_of ls

unfoldable pub table_of : List ℕ → List ℕ
table_of text = bytes_of (lines_at 0 text)

-- the card that records write down: a line for each, in their order
unfoldable pub text_of : List Record → List ℕ
text_of [] = []
text_of (r ∷ rs) = line_text (content_of r) ++ 10 ∷ text_of rs

unfoldable pub card_of : List ℕ → List ℕ
card_of bytes = text_of (records bytes)

-- What is read is converted: the answer, by the length of the output room, and that room after it.
unfoldable pub handed : ℕ → ℕ → Converted
handed n size = cond (leb n size) (Written n) (Refused (placeless fault.Output))

abbrev pub answer_of : Read → List ℕ → ℕ → Converted
answer_of (read.Refused f) out size = Refused f
answer_of (read.Counted n l g) out size = handed (length out) size

abbrev pub room_after : Converted → List ℕ → List ℕ → List ℕ
room_after (Refused f) out room = room
room_after (Written n) out room = out ++ drop n room

-- card to table
unfoldable pub to_table : List ℕ → ℕ → Converted
to_table text size = answer_of (card_read text) (table_of text) size

-- table to card
unfoldable pub to_card : List ℕ → ℕ → Converted
to_card bytes size = answer_of (read_of bytes) (card_of bytes) size
