-- The lines of a card one by one: the first line, and those of the text after it.
use Rattle.std.specs.Prelude.{◌≡◌, refl, ◌⊎◌, ℕ, ◌+◌, length}
use Rattle.std.proofs.Common.{sym, ◌∙◌, ap, subst, inl, inr, ⊎_elim}
use mathlib.Core.List.{List, [], ◌∷◌, ◌++◌, nil≢cons, head-eq_of_cons-eq, tail-eq_of_cons-eq}
use Rattle.std.proofs.Math.Option.{Option, none, some, none-ne-some, some-injective}
use Rattle.wire.specs.Listing.{Content}
use Rattle.cards.specs.Words.{pieces}
use Rattle.cards.specs.Card.{PlainContent, says, Line, lines_from, lines_at}
use Rattle.cards.specs.Convert.{line_text}
use Rattle.cards.specs.Pieces.{Free, First, parted, pieces_some, pieces_next, pieces_last}
use Rattle.cards.specs.Says.{says_text, text_says, says_plain, text_free}

pub lines_none : (at : ℕ) → lines_at at [] ≡ []
unfolding lines_from pieces
lines_none at = refl

abbrev pub line : ℕ → Option Content → Line
line at o = record { place = at; content = o }

-- a line that ends, and the bytes after the last
lines_next : (at : ℕ) (w rest : List ℕ) → Free 10 w
    → lines_at at (w ++ 10 ∷ rest) ≡ line at (says (pieces 32 w)) ∷ lines_at (at + length w + 1) rest
unfolding lines_from
lines_next at w rest free =
    ap (lines_from at) (pieces_next 10 w rest free) ∙ go (pieces 10 rest) _ _ (pieces_some 10 rest).2
  where
    go : (ps : List (List ℕ)) (q : List ℕ) (qs : List (List ℕ)) → ps ≡ q ∷ qs
        → lines_from at (w ∷ ps) ≡ line at (says (pieces 32 w)) ∷ lines_from (at + length w + 1) ps
    go ps q qs e = rw e refl

lines_last : (at b : ℕ) (bs : List ℕ) → Free 10 (b ∷ bs) → lines_at at (b ∷ bs) ≡ line at none ∷ []
unfolding lines_from
lines_last at b bs free = ap (lines_from at) (pieces_last 10 (b ∷ bs) free)

-- where it is known what the line says
lines_said : (at : ℕ) (w rest : List ℕ) (o : Option Content) → Free 10 w → says (pieces 32 w) ≡ o
    → lines_at at (w ++ 10 ∷ rest) ≡ line at o ∷ lines_at (at + length w + 1) rest
lines_said at w rest o free e =
    lines_next at w rest free ∙ ap (λ (x : Option Content). line at x ∷ lines_at (at + length w + 1) rest) e

pub lines_text : (at : ℕ) (c : Content) (rest : List ℕ) → PlainContent c
    → lines_at at (line_text c ++ 10 ∷ rest) ≡ line at (some c) ∷ lines_at (at + length (line_text c) + 1) rest
lines_text at c rest plain = lines_said at (line_text c) rest (some c) (text_free c) (says_text c plain)

-- A text is empty, starts with the text of a line, or starts with a wrong line.
abbrev pub WithText : List ℕ → Type 0
WithText s = (c : Content) × PlainContent c × (rest : List ℕ) × (s ≡ line_text c ++ 10 ∷ rest)

abbrev pub WithWrong : ℕ → List ℕ → Type 0
WithWrong at s = (ls : List Line) × (lines_at at s ≡ line at none ∷ ls)

pub line_cases : (at : ℕ) (s : List ℕ) → (s ≡ []) ⊎ (WithText s ⊎ WithWrong at s)
line_cases at [] = inl refl
line_cases at (b ∷ bs) = inr (go (parted 10 (b ∷ bs)))
  where
    ends : (w rest : List ℕ) → Free 10 w → b ∷ bs ≡ w ++ 10 ∷ rest → (o : Option Content) → says (pieces 32 w) ≡ o
        → WithText (b ∷ bs) ⊎ WithWrong at (b ∷ bs)
    ends w rest free is none e = inr (_, ap (lines_at at) is ∙ lines_said at w rest none free e)
    ends w rest free is (some c) e = inl (c, says_plain (pieces 32 w) c e, rest, is ∙ ap (λ (u : List ℕ). u ++ 10 ∷ rest) (text_says w c e))

    go : Free 10 (b ∷ bs) ⊎ First 10 (b ∷ bs) → WithText (b ∷ bs) ⊎ WithWrong at (b ∷ bs)
    go (inl free) = inr ([], lines_last at b bs free)
    go (inr (w, rest, free, is)) = ends w rest free is (says (pieces 32 w)) refl

-- A wrong line comes first where no line's text does.
pub lines_wrong : (at : ℕ) (s : List ℕ) → (s ≡ [] → ⊥) → ((c : Content) (rest : List ℕ) → s ≡ line_text c ++ 10 ∷ rest → ⊥)
    → (ls : List Line) × (lines_at at s ≡ line at none ∷ ls)
lines_wrong at s some_bytes no_text =
    ⊎_elim (λ is. absurd (some_bytes is))
    (⊎_elim (λ text. absurd (no_text text.0 text.2 text.3)) (λ wrong. wrong))
    (line_cases at s)

-- What the first line says, the text starts with, it is no guard of two clocks, and the other lines are those of the rest.
abbrev FirstOf : ℕ → List ℕ → ℕ → Content → List Line → Type 0
FirstOf at s p c ls = (p ≡ at) × PlainContent c × ((rest : List ℕ) × (s ≡ line_text c ++ 10 ∷ rest) × (ls ≡ lines_at (at + length (line_text c) + 1) rest))

same_first : (at : ℕ) (s : List ℕ) (p : ℕ) (c d : Content) (ls : List Line) (rest : List ℕ) → PlainContent d → s ≡ line_text d ++ 10 ∷ rest
    → line p (some c) ∷ ls ≡ line at (some d) ∷ lines_at (at + length (line_text d) + 1) rest → FirstOf at s p c ls
same_first at s p c d ls rest plain is e = (ap (λ (l : Line). l.place) first, subst PlainContent said plain, (rest, text, others))
  where
    first : line p (some c) ≡ line at (some d)
    first = head-eq_of_cons-eq e

    said : d ≡ c
    said = some-injective d c (sym (ap (λ (l : Line). l.content) first))

    text : s ≡ line_text c ++ 10 ∷ rest
    text = is ∙ ap (λ (x : Content). line_text x ++ 10 ∷ rest) said

    others : ls ≡ lines_at (at + length (line_text c) + 1) rest
    others = tail-eq_of_cons-eq e ∙ ap (λ (x : Content). lines_at (at + length (line_text x) + 1) rest) said

pub lines_first : (at : ℕ) (s : List ℕ) (p : ℕ) (c : Content) (ls : List Line) → lines_at at s ≡ line p (some c) ∷ ls
    → (p ≡ at) × PlainContent c × ((rest : List ℕ) × (s ≡ line_text c ++ 10 ∷ rest) × (ls ≡ lines_at (at + length (line_text c) + 1) rest))
lines_first at s p c ls e = go (line_cases at s)
  where
    go : (s ≡ []) ⊎ (WithText s ⊎ WithWrong at s) → FirstOf at s p c ls
    go (inl is) = absurd (nil≢cons (sym (ap (lines_at at) is ∙ lines_none at) ∙ e))
    go (inr (inl (d, plain, rest, is))) =
        same_first at s p c d ls rest plain is (sym e ∙ ap (lines_at at) is ∙ lines_text at d rest plain)
    go (inr (inr (ws, is))) =
        absurd (none-ne-some c (ap (λ (l : Line). l.content) (head-eq_of_cons-eq (sym is ∙ e))))

-- A text without lines is empty.
pub lines_empty : (at : ℕ) (s : List ℕ) → lines_at at s ≡ [] → s ≡ []
lines_empty at s e = go (line_cases at s)
  where
    go : (s ≡ []) ⊎ (WithText s ⊎ WithWrong at s) → s ≡ []
    go (inl is) = is
    go (inr (inl (c, plain, rest, is))) = absurd (nil≢cons (sym e ∙ ap (lines_at at) is ∙ lines_text at c rest plain))
    go (inr (inr (ls, is))) = absurd (nil≢cons (sym e ∙ is))
