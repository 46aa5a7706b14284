-- What is accepted says contents: a card is their text, a table their bytes.
use Rattle.std.specs.Prelude.{◌≡◌, ℕ, ◌+◌, length}
use Rattle.std.proofs.Math.Path.{refl}
use Rattle.std.proofs.Common.{sym, ◌∙◌, ap}
use mathlib.Core.List.Memᴰ
use mathlib.Core.List.{List, [], ◌∷◌, ◌++◌}
use Rattle.std.proofs.Math.Option.{Option, none, some}
use Rattle.table.specs.declared.Read.TheVariants as read
use Rattle.records.specs.declared.Tally.{Tally}
use Rattle.records.specs.declared.Verdict.{Verdict}
use Rattle.records.specs.declared.Verdict.TheVariants.{Refused, Next, Last}
use Rattle.records.specs.Checking.{check_of, onward_of, check_judged}
use Rattle.wire.specs.Listing.{Content}
use Rattle.format.specs.Shapes.{refused_counted}
use Rattle.cards.specs.Card.{PlainContent, Line, lines_at, tested_if, judge_line, check_lines}
use Rattle.cards.specs.Convert.{line_text}
use Rattle.cards.specs.LineByLine.{lines_first, lines_empty}
use Rattle.cards.specs.Contents.{PlainContents, text_for, plain_more}

-- a text that is the text of some contents, none of them a guard of two clocks
pub record Says (s : List ℕ) : Type 0 where
  pub contents : List Content
  pub plain : PlainContents contents
  pub text : s ≡ text_for contents

says_one : (c : Content) {s rest : List ℕ} → PlainContent c → s ≡ line_text c ++ 10 ∷ rest → Says rest → Says s
unfolding text_for
says_one c plain e r =
    record {
      contents = c ∷ r.contents;
      plain = plain_more c r.contents plain r.plain;
      text = e ∙ ap (λ t. line_text c ++ 10 ∷ t) r.text;
    }

says_none : {s : List ℕ} → s ≡ [] → Says s
unfolding text_for
says_none e = record { contents = []; plain = λ c m. absurd (Memᴰ.not-nil m); text = e }

module _ (len n l g : ℕ) where
  -- by the verdict on a line and what comes of the lines after it
  says_onward : (ls : List Line) (t : Tally) (at : ℕ) (s : List ℕ)
      → ((u : Tally) → check_lines len u ls ≡ read.Counted n l g → Says s)
      → lines_at at s ≡ ls
      → (v : Verdict) → onward_of (λ x. x.place) judge_line len t ls v ≡ read.Counted n l g → Says s
  says_onward ls t at s rest e (Refused f) q = refused_counted q
  says_onward ls t at s rest e (Next u) q = rest u q
  says_onward [] t at s rest e Last q = says_none (lines_empty at s e)
  says_onward (f ∷ ls) t at s rest e Last q = refused_counted q

  -- by what the first line says
  says_first : (f : Line) (ls : List Line) (t : Tally) (at : ℕ) (s : List ℕ)
      → ((u : Tally) (at : ℕ) (s : List ℕ) → lines_at at s ≡ ls → check_lines len u ls ≡ read.Counted n l g → Says s)
      → lines_at at s ≡ f ∷ ls → check_lines len t (f ∷ ls) ≡ read.Counted n l g
      → (o : Option Content) → f.content ≡ o → Says s
  says_first f ls t at s rest e q none is =
      refused_counted (sym (check_judged (λ x. x.place) judge_line len t f ls _ (ap (tested_if t f.place) is)) ∙ q)
  says_first f ls t at s rest e q (some c) is =
      let h = lines_first at s f.place c ls (e ∙ (λ i. record { place = f.place; content = is i } ∷ ls)) in
      let next = at + length (line_text c) + 1 in
      says_one c h.1 h.2.1
      (says_onward ls t next h.2.0 (λ u. rest u next h.2.0 (sym h.2.2)) (sym h.2.2) (judge_line t f)
      (sym (check_judged (λ x. x.place) judge_line len t f ls _ refl) ∙ q))

  -- lines that are counted are the text of contents
  pub counted_says : (ls : List Line) (t : Tally) (at : ℕ) (s : List ℕ) → lines_at at s ≡ ls
      → check_lines len t ls ≡ read.Counted n l g → Says s
  unfolding check_of
  counted_says [] t at s e q = refused_counted q
  counted_says (f ∷ ls) t at s e q = says_first f ls t at s (counted_says ls) e q f.content refl
