-- Contents go from a card to a table.
use Rattle.std.specs.Prelude.{◌≡◌, refl, ℕ, ◌+◌, length}
use Rattle.std.proofs.Common.{sym, ◌∙◌, ap, subst, ⊎_elim, arith}
use mathlib.Core.List.Memᴰ
use mathlib.Core.List.{List, [], ◌∷◌, ◌++◌, Memᴰ}
use Rattle.std.proofs.Math.Option.{some}
use Rattle.wire.specs.Records.{Record, records_from, records}
use Rattle.wire.specs.Listing.{guard, reset, Content, head, entry, finish, close, content_of}
use Rattle.format.specs.Shapes.{entry_at, finish_at, end_at, content_guard}
use Rattle.cards.specs.Card.{PlainContent, Line, lines_at}
use Rattle.cards.specs.Convert.{record_bytes, line_text, bytes_of, text_of, table_of, card_of}
use Rattle.cards.specs.LineByLine.{lines_none, lines_text}
use Rattle.cards.specs.Contents.{PlainContents, bytes_for, record_of, line_of, lined, text_for, lines_for}

bytes_lined : (at : ℕ) (cs : List Content) → bytes_of (lined at cs) ≡ bytes_for cs
unfolding bytes_of lined bytes_for
bytes_lined at [] = refl
bytes_lined at (c ∷ cs) = ap (λ bs. record_bytes c ++ bs) (bytes_lined (at + length (line_text c) + 1) cs)

pub table_for : (cs : List Content) → PlainContents cs → table_of (text_for cs) ≡ bytes_for cs
unfolding table_of
table_for cs plain = ap bytes_of (lines_for 0 cs plain) ∙ bytes_lined 0 cs
