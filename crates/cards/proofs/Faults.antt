-- For which faults a card is refused: the table's 2, 4, 5, 6, 8, 9, 10 and 16, and 20; so never for 1, 3 or 7.
use Rattle.std.specs.Prelude.{◌≡◌, true, ℕ, ◌≤◌, length}
use Rattle.std.proofs.Math.Path.{refl, subst}
use Rattle.std.proofs.Common.{sym, arith}
use mathlib.Core.List.{List, [], ◌∷◌}
use Rattle.std.proofs.Math.Option.{Option, none, some}
use Rattle.std.proofs.Math.Decide.{dec_le}
use Rattle.table.specs.Refusal.{number_of}
use Rattle.table.specs.declared.Refusal.{Refusal}
use Rattle.table.specs.declared.Read.{Read}
use Rattle.table.specs.declared.Read.TheVariants as read
use Rattle.records.specs.declared.Tally.{Tally}
use Rattle.records.specs.declared.Verdict.{Verdict}
use Rattle.records.specs.Checking.{start, check_of, onward_of, check_judged}
use Rattle.wire.specs.Listing.{Content}
use Rattle.cards.specs.Card.{Line, lines_at, tested_if, judge_line, check_lines, card_read}
use Rattle.cards.specs.Small.{of_card, Taken, stops, goes, ends, taken}
use Rattle.cards.proofs.RoundTrip.{card_long, card_short}

-- an answer that refuses only for these
data Fair : Read → Type 0 where
  refuses : (f : Refusal) → of_card (number_of f.fault) ≡ true → Fair (read.Refused f)
  counts : (n l g : ℕ) → Fair (read.Counted n l g)

module _ (len : ℕ) where
  -- lines after a verdict, a line by what it says, and all lines
  abbrev FairAfter : List Line → Type 0
  FairAfter ls = (t : Tally) → t.clocks ≤ 6 → Fair (check_lines len t ls)

  onward_fair : (ls : List Line) (t : Tally) → FairAfter ls → {c : Content} {v : Verdict} → Taken c v
      → Fair (onward_of (λ l. l.place) judge_line len t ls v)
  onward_fair ls t rest (stops f o) = refuses f o
  onward_fair ls t rest (goes u _ few) = rest u few
  onward_fair [] t rest (ends _) = counts t.clocks t.steps t.guards
  onward_fair (l ∷ ls) t rest (ends _) = refuses _ refl

  line_fair : (ls : List Line) (t : Tally) (p : ℕ) → t.clocks ≤ 6 → FairAfter ls → (o : Option Content)
      → Fair (onward_of (λ l. l.place) judge_line len t ls (tested_if t p o))
  line_fair ls t p few rest none = refuses _ refl
  line_fair ls t p few rest (some c) = onward_fair ls t rest (taken t p c few)

  lines_fair : (ls : List Line) → FairAfter ls
  unfolding check_of
  lines_fair [] t few = refuses _ refl
  lines_fair (l ∷ ls) t few =
      subst Fair (sym (check_judged (λ x. x.place) judge_line len t l ls _ refl))
      (line_fair ls t l.place few (lines_fair ls) l.content)

pub card_fault : (text : List ℕ) (f : Refusal) → card_read text ≡ read.Refused f → of_card (number_of f.fault) ≡ true
card_fault text f e = of (subst Fair e (whole (dec_le (length text) 16384)))
  where
    whole : Dec (length text ≤ 16384) → Fair (card_read text)
    whole (yes h) = subst Fair (sym (card_short text h)) (lines_fair (length text) (lines_at 0 text) start (omega arith))
    whole (no h) = subst Fair (sym (card_long text (omega arith))) (refuses _ refl)

    of : Fair (read.Refused f) → of_card (number_of f.fault) ≡ true
    of (refuses _ o) = o
