-- A text written over a list of bytes.
use Rattle.std.specs.Prelude.{◌≡◌, refl, List, [], ◌∷◌, ◌++◌, ℕ, suc, ◌+◌, ◌≤◌, length, set, take, drop}
use Rattle.std.proofs.Common.{sym, ◌∙◌, ap, arith, add-zero, length-append}
use Rattle.std.proofs.lemmas.List.Edits.{sets, sets-eq}
use Rattle.std.proofs.Math.Seq.{length-sets}

-- The list with a text in it from a place on. What has no place there is left out.
unfoldable pub over : List ℕ → ℕ → List ℕ → List ℕ
over l at text = sets l at text

-- What a writer does: `after` is `before` with the text from place `at` on, and `end` is the place after it.
pub record Written (before : List ℕ) (at : ℕ) (text after : List ℕ) (end : ℕ) : Type 0 where
  pub contents : after ≡ over before at text
  pub place : end ≡ at + length text

-- a text that fits stands there whole, and all else is kept
pub over_fits : (l : List ℕ) (at : ℕ) (text : List ℕ) → at + length text ≤ length l
    → over l at text ≡ take at l ++ text ++ drop (at + length text) l
unfolding over
over_fits l at text h = sets-eq text l at h

-- as many bytes as before
pub written_length : {l m text : List ℕ} {at end : ℕ} → Written l at text m end → length m ≡ length l
unfolding over
written_length {l} {text} {at} w = ap length w.contents ∙ length-sets l at text

-- a text written at the front that fits: it stands there whole, and all after it is kept
pub written_front : {l m text : List ℕ} {end : ℕ} → Written l 0 text m end → end ≤ length l
    → (end ≡ length text) × (m ≡ text ++ drop end l)
written_front {l} {m} {text} {end} w h = (
  size,
  w.contents ∙ over_fits l 0 text (omega (arith, size)) ∙ ap (λ (n : ℕ). text ++ drop n l) (sym w.place),
)
  where
    size : end ≡ length text
    size = omega (arith, w.place)

-- two texts joined are written one after the other
pub over_append : (l : List ℕ) (at : ℕ) (xs ys : List ℕ)
    → over l at (xs ++ ys) ≡ over (over l at xs) (at + length xs) ys
unfolding over
over_append l at [] ys = ap (λ (n : ℕ). over l n ys) (sym (add-zero at))
over_append l at (x ∷ xs) ys =
    over_append (set l at x) (suc at) xs ys
    ∙ ap (λ (n : ℕ). over (over (set l at x) (suc at) xs) n ys) (omega arith)

-- a writer of nothing, a writer of one byte, and a writer after a writer
pub written_none : (l : List ℕ) (at : ℕ) → Written l at [] l at
unfolding over
written_none l at = record { contents = refl; place = sym (add-zero at) }

pub written_one : (l : List ℕ) (at b : ℕ) → Written l at (b ∷ []) (set l at b) (at + 1)
unfolding over
written_one l at b = record { contents = refl; place = refl }

pub written_then : {l m k xs ys : List ℕ} {at a r : ℕ} → Written l at xs m a → Written m a ys k r
    → Written l at (xs ++ ys) k r
written_then {l} {m} {k} {xs} {ys} {at} first next = record {
  contents =
      next.contents ∙ (λ i. over (first.contents i) (first.place i) ys) ∙ sym (over_append l at xs ys);
  place = omega (arith, length-append xs ys, first.place, next.place);
}

-- the same by another name of the text
pub written_as : {l m xs ys : List ℕ} {at r : ℕ} → xs ≡ ys → Written l at xs m r → Written l at ys m r
written_as {l} {m} {xs} {ys} {at} {r} e w = record {
  contents = w.contents ∙ ap (over l at) e;
  place = w.place ∙ ap (λ (text : List ℕ). at + length text) e;
}
