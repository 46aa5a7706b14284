-- What records say, one after the other: as the bytes of a table, and as the text of a card; both are read back.
use Rattle.std.specs.Prelude.{◌≡◌, refl, ℕ, ◌+◌, length}
use Rattle.std.proofs.Common.{sym, ◌∙◌, ap, subst, ⊎_elim, arith}
use mathlib.Core.List.Memᴰ
use mathlib.Core.List.{List, [], ◌∷◌, ◌++◌, Memᴰ}
use Rattle.std.proofs.Math.Option.{some}
use Rattle.wire.specs.Records.{Record, records_from, records}
use Rattle.wire.specs.Listing.{guard, reset, Content, head, entry, finish, close, content_of}
use Rattle.format.specs.Shapes.{entry_at, finish_at, end_at, content_guard}
use Rattle.cards.specs.Card.{PlainContent, Line, lines_at}
use Rattle.cards.specs.Convert.{record_bytes, line_text, bytes_of, text_of, table_of, card_of}
use Rattle.cards.specs.LineByLine.{lines_none, lines_text}

-- the record of a content at a place, and the line of one
abbrev pub record_of : ℕ → Content → Record
record_of at (head n) = record { place = at; kind = 1; body = n ∷ [] }
record_of at (entry e) = entry_at at e
record_of at finish = finish_at at
record_of at close = end_at at

abbrev pub line_of : ℕ → Content → Line
line_of at c = record { place = at; content = some c }

-- contents that lines can say
abbrev pub PlainContents : List Content → Type 0
PlainContents cs = (c : Content) → Memᴰ c cs → PlainContent c

-- contents as bytes, and the records from a place on that these are
unfoldable pub bytes_for : List Content → List ℕ
bytes_for [] = []
bytes_for (c ∷ cs) = record_bytes c ++ bytes_for cs

unfoldable pub recorded : ℕ → List Content → List Record
recorded at [] = []
recorded at (c ∷ cs) = record_of at c ∷ recorded (at + length (record_bytes c)) cs

-- contents as text, and the lines from a place on that this has
unfoldable pub text_for : List Content → List ℕ
text_for [] = []
text_for (c ∷ cs) = line_text c ++ 10 ∷ text_for cs

unfoldable pub lined : ℕ → List Content → List Line
lined at [] = []
lined at (c ∷ cs) = line_of at c ∷ lined (at + length (line_text c) + 1) cs

record_first : (at : ℕ) (c : Content) (rest : List ℕ)
    → records_from 0 at (record_bytes c ++ rest) ≡ record_of at c ∷ records_from 0 (at + length (record_bytes c)) rest
unfolding records_from
record_first at (head n) rest = ap (λ m. record_of at (head n) ∷ records_from 0 m rest) (omega arith)
record_first at (entry (guard g)) rest = ap (λ m. entry_at at (guard g) ∷ records_from 0 m rest) (omega arith)
record_first at (entry (reset j)) rest = ap (λ m. entry_at at (reset j) ∷ records_from 0 m rest) (omega arith)
record_first at finish rest = refl
record_first at close rest = refl

pub records_for : (at : ℕ) (cs : List Content) → records_from 0 at (bytes_for cs) ≡ recorded at cs
unfolding records_from bytes_for recorded
records_for at [] = refl
records_for at (c ∷ cs) =
    record_first at c (bytes_for cs) ∙ ap (λ rs. record_of at c ∷ rs) (records_for (at + length (record_bytes c)) cs)

pub lines_for : (at : ℕ) (cs : List Content) → PlainContents cs → lines_at at (text_for cs) ≡ lined at cs
unfolding text_for lined
lines_for at [] plain = lines_none at
lines_for at (c ∷ cs) plain =
    lines_text at c (text_for cs) (plain c (Memᴰ.head refl))
    ∙ ap (λ ls. line_of at c ∷ ls) (lines_for (at + length (line_text c) + 1) cs (λ d m. plain d (Memᴰ.tail m)))

-- a record says its content
pub content_of_lem : (at : ℕ) (c : Content) → PlainContent c → content_of (record_of at c) ≡ c
content_of_lem at (head n) plain = refl
content_of_lem at (entry (guard g)) plain = content_guard at g plain
content_of_lem at (entry (reset j)) plain = refl
content_of_lem at finish plain = refl
content_of_lem at close plain = refl

text_recorded : (at : ℕ) (cs : List Content) → PlainContents cs → text_of (recorded at cs) ≡ text_for cs
unfolding text_of recorded text_for
text_recorded at [] plain = refl
text_recorded at (c ∷ cs) plain =
    λ i. line_text (content_of_lem at c (plain c (Memᴰ.head refl)) i)
    ++ 10 ∷ text_recorded (at + length (record_bytes c)) cs (λ d m. plain d (Memᴰ.tail m)) i

-- So contents go from a table to a card.
pub card_for : (cs : List Content) → PlainContents cs → card_of (bytes_for cs) ≡ text_for cs
unfolding card_of
card_for cs plain = ap text_of (records_for 0 cs) ∙ text_recorded 0 cs plain

-- one more of them
pub plain_more : (c : Content) (cs : List Content) → PlainContent c → PlainContents cs → PlainContents (c ∷ cs)
plain_more c cs first rest d m = ⊎_elim (λ e. subst PlainContent (sym e) first) (rest d) (Memᴰ.cases_cons m)
