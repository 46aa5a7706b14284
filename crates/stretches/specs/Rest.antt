-- The rest of a table after some of its records: what its items come to, inside the stretches that are open.
use Rattle.std.specs.Prelude.{◌≡◌, refl, List, [], ◌∷◌, ◌++◌, ℕ, zero, suc, ◌+◌, ◌*◌, ◌<◌, length}
use Rattle.std.proofs.Common.{sym, ap, arith, length-append}
use Rattle.wire.specs.Listing.{Entry}
use Rattle.format.specs.Encode.{guard_count}
use Rattle.stretches.specs.declared.Open.{Open}
use Rattle.stretches.specs.Reading.{repeated}
use Rattle.stretches.specs.Tree.{Items, items_on, copies, length_copies, expand, Sound}

-- ---- counts of steps, and of guards
guard_append : (ss rs : List (List Entry)) → guard_count (ss ++ rs) ≡ guard_count ss + guard_count rs
unfolding guard_count
guard_append [] rs = omega arith
guard_append (s ∷ ss) rs = omega (arith, guard_append ss rs)

pub guard_copies : (k : ℕ) (ss : List (List Entry)) → guard_count (copies k ss) ≡ k * guard_count ss
unfolding copies guard_count
guard_copies zero ss = omega arith
guard_copies (suc k) ss = omega (arith, guard_append ss (copies k ss), guard_copies k ss)

-- what is counted: it adds up, and so often as it is repeated
pub record Counting (count : List (List Entry) → ℕ) : Type 0 where
  pub nothing : count [] ≡ 0
  pub sum : (ss rs : List (List Entry)) → count (ss ++ rs) ≡ count ss + count rs
  pub often : (k : ℕ) (ss : List (List Entry)) → count (copies k ss) ≡ k * count ss

pub counting_steps : Counting length
counting_steps = record { nothing = refl; sum = length-append; often = length_copies }

pub counting_guards : Counting guard_count
unfolding guard_count
counting_guards = record { nothing = refl; sum = guard_append; often = guard_copies }

-- ---- the rest of a table: the items of the innermost open stretch, and those of the ones around it
abbrev pub rest_bytes : Items → List Items → List ℕ
rest_bytes is [] = items_on is (5 ∷ [])
rest_bytes is (js ∷ outer) = items_on is (8 ∷ rest_bytes js outer)

-- the count at the end of the table, from a count now
abbrev pub ending : (List (List Entry) → ℕ) → (Open → ℕ) → ℕ → List Open → Items → List Items → ℕ
ending count field c [] is outer = c + count (expand is)
ending count field c (o ∷ stack) is [] = c + count (expand is)
ending count field c (o ∷ stack) is (js ∷ outer) = ending count field (repeated o.times (field o) (c + count (expand is))) stack js outer

pub ending_same : (count : List (List Entry) → ℕ) (field : Open → ℕ) (c d : ℕ) (stack : List Open) (is js : Items) (outer : List Items)
    → c + count (expand is) ≡ d + count (expand js) → ending count field c stack is outer ≡ ending count field d stack js outer
ending_same count field c d [] is js outer e = e
ending_same count field c d (o ∷ stack) is js [] e = e
ending_same count field c d (o ∷ stack) is js (k ∷ outer) e = ap (λ x. ending count field (repeated o.times (field o) x) stack k outer) e

-- sound in all, and each open stretch is around a step at least
pub data Rest (n : ℕ) : ℕ → List Open → Items → List Items → Type 0 where
  rest_last : (c : ℕ) (is : Items) → Sound n 0 is → Rest n c [] is []
  rest_more : (c : ℕ) (o : Open) (stack : List Open) (is js : Items) (outer : List Items) → Sound n (suc (length stack)) is
      → o.steps < c + length (expand is) → Rest n (repeated o.times o.steps (c + length (expand is))) stack js outer
      → Rest n c (o ∷ stack) is (js ∷ outer)

pub rest_same : (n c d : ℕ) (stack : List Open) (is js : Items) (outer : List Items) → c + length (expand is) ≡ d + length (expand js)
    → (Sound n (length stack) is → Sound n (length stack) js) → Rest n c stack is outer → Rest n d stack js outer
rest_same n c d stack is js outer e f (rest_last _ _ s) = rest_last d js (f s)
rest_same n c d stack is js outer e f (rest_more _ o more _ k rest s l r) =
    rest_more d o more js k rest (f s) (omega (arith, l, e)) (rw (sym e) r)

pub rest_sound : {n c : ℕ} {stack : List Open} {is : Items} {outer : List Items} → Rest n c stack is outer → Sound n (length stack) is
rest_sound (rest_last _ _ s) = s
rest_sound (rest_more _ _ _ _ _ _ s _ _) = s
