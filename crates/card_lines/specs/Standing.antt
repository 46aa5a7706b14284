-- Words that stand in a text, from a place to another.
use Rattle.std.specs.Prelude.{◌≡◌, refl, true, List, [], ◌∷◌, ◌++◌, ℕ, ◌+◌, ◌≤◌, eqb, length, drop}
use Rattle.std.proofs.Common.{sym, ◌∙◌, ap, append_assoc, arith, length-drop, length-append, drop-drop, eqb-true, eq-eqb}
use Rattle.std.proofs.lemmas.Bool.{false≢true}
use Rattle.std.proofs.Math.Seq.{drop-append_seam}
use Rattle.records.specs.Tests.{both}
use Rattle.card_lines.specs.Front.{starts}

-- a word stands in a text, from a place to another
pub record Stands (text : List ℕ) (at next : ℕ) (w : List ℕ) : Type 0 where
  pub place : next ≡ at + length w
  pub rest : drop at text ≡ w ++ drop next text

-- it stands there where the text from the place on begins with it
pub stands_front : (text : List ℕ) (at : ℕ) (w s : List ℕ) → drop at text ≡ w ++ s → drop (at + length w) text ≡ s
stands_front text at w s e = sym (drop-drop (length w) at text) ∙ ap (drop (length w)) e ∙ drop-append_seam w s

pub stands_by : (text : List ℕ) (at : ℕ) (w s : List ℕ) → drop at text ≡ w ++ s → Stands text at (at + length w) w
stands_by text at w s e = record { place = refl; rest = e ∙ ap (λ r. w ++ r) (sym (stands_front text at w s e)) }

-- one word after another
pub stands_then : {text : List ℕ} {at p q : ℕ} {v w : List ℕ} → Stands text at p v → Stands text p q w → Stands text at q (v ++ w)
stands_then {text} {at} {p} {q} {v} {w} a b = record {
  place = omega (arith, a.place, b.place, length-append v w);
  rest = a.rest ∙ ap (λ r. v ++ r) b.rest ∙ sym (append_assoc v w (drop q text));
}

-- the same by another name of the word
pub stands_as : {text : List ℕ} {at p : ℕ} {v w : List ℕ} → v ≡ w → Stands text at p v → Stands text at p w
stands_as {text} {at} {p} e a = record { place = a.place ∙ ap (λ w. at + length w) e; rest = a.rest ∙ ap (λ w. w ++ drop p text) e }

-- what stands in a text ends in it
pub stands_within : {text : List ℕ} {at p : ℕ} {w : List ℕ} → at ≤ length text → Stands text at p w → p ≤ length text
stands_within {text} {at} {p} {w} h a =
    omega (arith, a.place, ap length a.rest, length-append w (drop p text), length-drop at text, length-drop p text)

-- a word is found where it stands, and stands where it is found
pub starts_append : (w s : List ℕ) → starts w (w ++ s) ≡ true
unfolding starts
starts_append [] s = refl
starts_append (b ∷ w) s = simp (eq-eqb b b refl, starts_append w s)

pub front_of : (w s : List ℕ) → starts w s ≡ true → s ≡ w ++ drop (length w) s
unfolding starts
front_of [] s e = refl
front_of (b ∷ w) [] e = absurd (false≢true e)
front_of (b ∷ w) (c ∷ s) e =
    let h = both (eqb c b) (starts w s) e in
    λ j. eqb-true c b h.0 j ∷ front_of w s h.1 j

pub starts_stands : (text : List ℕ) (at : ℕ) (w : List ℕ) → starts w (drop at text) ≡ true → Stands text at (at + length w) w
starts_stands text at w e = stands_by text at w _ (front_of w (drop at text) e)
