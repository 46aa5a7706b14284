-- The card on the door: a table as foremen write it, in lines of text.
use Rattle.std.specs.Prelude.{true, false, cond, ◌&&◌, List, [], ◌∷◌, ℕ, ◌+◌, leb, length}
use Rattle.std.proofs.Math.Option.{Option, none, some}
use Rattle.table.specs.declared.Fault.TheVariants as fault
use Rattle.table.specs.declared.Read.{Read}
use Rattle.table.specs.declared.Read.TheVariants as read
use Rattle.table.specs.declared.Relation.{Relation}
use Rattle.table.specs.Step.{Plain}
use Rattle.records.specs.declared.Tally.{Tally}
use Rattle.records.specs.declared.Verdict.{Verdict}
use Rattle.records.specs.declared.Verdict.TheVariants.{Refused}
use Rattle.records.specs.Rules.{in_order, headed, guarded, cleared, finished, ended}
use Rattle.records.specs.Checking.{start, check_of}
use Rattle.wire.specs.Listing.{guard, reset, Content, head, entry, finish, close}
use Rattle.format.specs.Encode.{relation_code}
use Rattle.cards.specs.Words.{is_empty, same, pieces, timers_word, zero_word, step_word, end_word, relation_in, is_number, value}

-- "N < C", "N <= C", "N = C", "N >= C", "N > C": a bound, of one timer
abbrev pub bound : ℕ → Relation → ℕ → Content
bound n r c = entry (guard (record { clock = n; second = 0; relation = r; minus = false; constant = c }))

-- the same, if the sign is one
abbrev pub bound_of : ℕ → Option Relation → ℕ → Option Content
bound_of n none c = none
bound_of n (some r) c = some (bound n r c)

-- what a line can say: any content but a guard of two clocks
abbrev pub PlainContent : Content → Type 0
PlainContent (head n) = Unit
PlainContent (entry (guard g)) = Plain g
PlainContent (entry (reset j)) = Unit
PlainContent finish = Unit
PlainContent close = Unit

-- What a line says, by its words: "step"; "end"; "timers N"; "zero N"; or a bound. Any other is a wrong line, and says nothing.
unfoldable pub says : List (List ℕ) → Option Content
says [] = none
says (w ∷ []) = cond (same w step_word) (some finish) (cond (same w end_word) (some close) none)
says (w ∷ n ∷ []) =
    cond (is_number n && same w timers_word) (some (head (value n)))
    (cond (is_number n && same w zero_word) (some (entry (reset (value n)))) none)
says (n ∷ w ∷ c ∷ []) = cond (is_number n && is_number c) (bound_of (value n) (relation_in w) (value c)) none
says (a ∷ b ∷ c ∷ d ∷ ws) = none

-- a line: where it starts, and what it says
pub record Line : Type 0 where
  pub place : ℕ
  pub content : Option Content

-- Lines end with a line feed (10), and single blanks (32) stand between words. What follows the last line feed is a wrong line.
unfoldable pub lines_from : ℕ → List (List ℕ) → List Line
lines_from at [] = []
lines_from at (rest ∷ []) = cond (is_empty rest) [] (record { place = at; content = none } ∷ [])
lines_from at (l ∷ m ∷ ls) = record { place = at; content = says (pieces 32 l) } ∷ lines_from (at + length l + 1) (m ∷ ls)

abbrev pub lines_at : ℕ → List ℕ → List Line
lines_at at text = lines_from at (pieces 10 text)

-- What a line says is judged as the records of a table are: "timers N" comes first, and only there, and then the same tests in the same order.
abbrev pub tested : Tally → ℕ → Content → Verdict
tested t place (head n) = in_order true place (headed place n)
tested t place (entry (guard g)) = in_order false place (guarded t place g.clock (relation_code g.relation) g.constant)
tested t place (entry (reset j)) = in_order false place (cleared t place j)
tested t place finish = in_order false place (finished t place)
tested t place close = in_order false place (ended t place)

abbrev pub tested_if : Tally → ℕ → Option Content → Verdict
tested_if t place none = Refused (record { fault = fault.Card; place = place })
tested_if t place (some c) = tested t place c

abbrev pub judge_line : Tally → Line → Verdict
judge_line t l = tested_if t l.place l.content

-- lines are taken from the top, in a text of a length, and the first fault counts
abbrev pub check_lines : ℕ → Tally → List Line → Read
check_lines = check_of (λ l. l.place) judge_line

-- a card, read
unfoldable pub card_read : List ℕ → Read
card_read text =
    cond (leb (length text) 16384)
    (check_lines (length text) start (lines_at 0 text))
    (read.Refused (record { fault = fault.Card; place = 16384 }))
