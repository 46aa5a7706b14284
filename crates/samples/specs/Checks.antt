-- Tests that compute: of all members of a list, of a member, of the numbers below one; and what a passed test says.
use Rattle.std.specs.Prelude.{◌≡◌, refl, ◌⊎◌, Bool, true, false, ◌&&◌, ◌||◌, ℕ, zero, suc, ◌<◌}
use Rattle.std.proofs.Common.{inl, inr, arith}
use Rattle.std.proofs.Math.Bool.{and-eq-true_iff}
use Rattle.std.proofs.lemmas.Bool.{false≢true}
use mathlib.Core.List.{List, [], ◌∷◌, Memᴰ}
use Rattle.std.proofs.Math.Decide.{dec_lt}
use Rattle.runs.specs.Tools.{Every, every_nil, every_cons}

-- two tests, three, or one of two
pub both : {a b : Bool} → (a && b) ≡ true → (a ≡ true) × (b ≡ true)
both {a} {b} e = (and-eq-true_iff a b).0 e

pub three : {a b c : Bool} → (a && b && c) ≡ true → (a ≡ true) × (b ≡ true) × (c ≡ true)
three {a} {b} {c} e =
    let h : ((a && b) ≡ true) × (c ≡ true) = both e in
    let t : (a ≡ true) × (b ≡ true) = both h.0 in
    (t.0, t.1, h.1)

pub either : (a b : Bool) → (a || b) ≡ true → (a ≡ true) ⊎ (b ≡ true)
either true b e = inl refl
either false b e = inr e

-- a test of every member of a list
unfoldable pub all : {A : Type 0} → (A → Bool) → List A → Bool
all f [] = true
all f (a ∷ l) = f a && all f l

pub all_every : {A : Type 0} (f : A → Bool) (l : List A) → all f l ≡ true → Every (λ a. f a ≡ true) l
unfolding all
all_every f [] e = every_nil _
all_every f (a ∷ l) e = let (h, t) = both e in (every_cons (λ a. f a ≡ true) a l).1 (h, all_every f l t)

-- a test of some member of a list
unfoldable pub some : {A : Type 0} → (A → Bool) → List A → Bool
some f [] = false
some f (a ∷ l) = f a || some f l

pub some_member : {A : Type 0} (f : A → Bool) (l : List A) → some f l ≡ true → (a : A) × Memᴰ a l × (f a ≡ true)
unfolding some
some_member f [] e = absurd (false≢true e)
some_member {A} f (a ∷ l) e = go (either (f a) (some f l) e) (some_member f l)
  where
    go : (f a ≡ true) ⊎ (some f l ≡ true) → (some f l ≡ true → (c : A) × Memᴰ c l × (f c ≡ true))
        → (c : A) × Memᴰ c (a ∷ l) × (f c ≡ true)
    go (inl h) k = (a, Memᴰ.head refl, h)
    go (inr h) k = let (c, m, q) = k h in (c, Memᴰ.tail m, q)

-- a test of the numbers below n
unfoldable pub below : ℕ → (ℕ → Bool) → Bool
below zero f = true
below (suc n) f = f n && below n f

pub below_each : (n : ℕ) (f : ℕ → Bool) → below n f ≡ true → (i : ℕ) → i < n → f i ≡ true
unfolding below
below_each zero f e i l = absurd (omega arith)
below_each (suc n) f e i l = let (h, t) = both e in go h (below_each n f t i) (dec_lt i n)
  where
    go : f n ≡ true → (i < n → f i ≡ true) → Dec (i < n) → f i ≡ true
    go h t (yes k) = t k
    go h t (no k) = let q : i ≡ n = omega arith in rw q h
