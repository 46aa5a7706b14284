-- How many vertices have a bound.
use Rattle.std.specs.Prelude.{◌≡◌, Bool, true, false, cond, List, ltb, length, set}
use Rattle.std.proofs.Math.Path.{refl, ap}
use Rattle.std.proofs.Common.{◌∙◌, not-suc-le-zero, arith, get_or-set_same, lt-ltb, le-ltb}
use Prim.Native.Nat.{ℕ, zero, suc, ◌+◌, ◌≤◌, ◌<◌}
use Rattle.std.proofs.Math.Decide.{dec_lt}
use Rattle.std.proofs.Math.Seq.{get_or-set_other}
use Rattle.basics.specs.Places.{at}
use Rattle.lowering.specs.Lowered.{none}

-- 1 for a bound, 0 for none
abbrev one : ℕ → ℕ
one x = cond (ltb x none) 1 0

-- the vertices below n that have a bound
unfoldable pub reached : List ℕ → ℕ → ℕ
reached l zero = 0
reached l (suc n) = reached l n + one (at l n)

pub reached_few : (l : List ℕ) (n : ℕ) → reached l n ≤ n
unfolding reached
reached_few l zero = omega arith
reached_few l (suc n) = omega (arith, small (ltb (at l n) none), reached_few l n)
  where
    small : (b : Bool) → cond b 1 0 ≤ 1
    small true = omega arith
    small false = omega arith

-- ---- a bound v stored at k
module _ (l : List ℕ) (k v : ℕ) (b : k < length l) (h : v < none) where
  other : (n : ℕ) → n ≤ k → reached (set l k v) n ≡ reached l n
  unfolding reached
  other zero w = refl
  other (suc n) w =
      let e = get_or-set_other l k n v 0 (omega arith) in
      omega (arith, other n (omega arith), ap one e)

  same : one (at (set l k v) k) ≡ 1
  same = ap one (get_or-set_same l k v 0 b) ∙ rw (lt-ltb v none h) refl

  -- where there was none there is one vertex more,
  pub reached_more : none ≤ at l k → (n : ℕ) → k < n → reached (set l k v) n ≡ reached l n + 1
  unfolding reached
  reached_more w zero p = absurd (not-suc-le-zero p)
  reached_more w (suc n) p = go (reached_more w n) (dec_lt k n)
    where
      was : one (at l k) ≡ 0
      was = rw (le-ltb (at l k) none w) refl

      go : (k < n → reached (set l k v) n ≡ reached l n + 1) → Dec (k < n)
          → reached (set l k v) n + one (at (set l k v) n) ≡ reached l n + one (at l n) + 1
      go h (yes q) =
          let e = get_or-set_other l k n v 0 (omega arith) in
          omega (arith, h q, ap one e)
      go h (no q) =
          let e : n ≡ k = omega arith in
          rw e (omega (arith, other k (omega arith), same, was))

  -- and where there was one there are as many.
  pub reached_same : at l k < none → (n : ℕ) → reached (set l k v) n ≡ reached l n
  unfolding reached
  reached_same w zero = refl
  reached_same w (suc n) = go (reached_same w n) (dec_lt k n) (dec_lt n k)
    where
      was : one (at l k) ≡ 1
      was = rw (lt-ltb (at l k) none w) refl

      go : reached (set l k v) n ≡ reached l n → Dec (k < n) → Dec (n < k)
          → reached (set l k v) n + one (at (set l k v) n) ≡ reached l n + one (at l n)
      go h (yes q) r =
          let e = get_or-set_other l k n v 0 (omega arith) in
          omega (arith, ap one e)
      go h (no q) (yes r) =
          let e = get_or-set_other l k n v 0 (omega arith) in
          omega (arith, ap one e)
      go h (no q) (no r) =
          let e : n ≡ k = omega arith in
          rw e (omega (arith, other k (omega arith), same, was))
