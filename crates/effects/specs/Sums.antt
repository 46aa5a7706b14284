-- Sums, and a search.
use Rattle.std.specs.Prelude.{◌≡◌, ◌⊎◌, ℕ, zero, suc, ◌+◌, ◌*◌, ◌≤◌, ◌<◌}
use Rattle.std.proofs.Common.{sym, subst, inl, inr, arith}
use Rattle.std.proofs.Math.Decide.{dec_lt}
use Rattle.basics.specs.Numbers.{sum}

-- ---- Sums

pub sum_mono : (n : ℕ) (u v : ℕ → ℕ) → ((i : ℕ) → i < n → u i ≤ v i) → sum u n ≤ sum v n
unfolding sum
sum_mono zero u v h = omega arith
sum_mono (suc n) u v h = omega (arith, sum_mono n u v (λ i l. h i (omega arith)), h n (omega arith))

pub sum_less : (n : ℕ) (u v : ℕ → ℕ) → ((i : ℕ) → i < n → u i ≤ v i) → (i : ℕ) → i < n → u i < v i → sum u n < sum v n
unfolding sum
sum_less zero u v h i l k = omega arith
sum_less (suc n) u v h i l k = go (dec_lt i n) (sum_less n u v (λ i l. h i (omega arith)) i)
  where
    go : Dec (i < n) → (i < n → u i < v i → sum u n < sum v n) → sum u n + u n < sum v n + v n
    go (yes m) r = omega (arith, r m k, h n (omega arith))
    go (no m) r =
        let e : i ≡ n = omega arith in
        let q : u n < v n = rw e at k in
        omega (arith, sum_mono n u v (λ i l. h i (omega arith)))

pub sum_top : (n K : ℕ) (u : ℕ → ℕ) → ((i : ℕ) → i < n → u i ≤ K) → sum u n ≤ n * K
unfolding sum
sum_top zero K u h = omega arith
sum_top (suc n) K u h = omega (arith, sum_top n K u (λ i l. h i (omega arith)), h n (omega arith))

-- ---- All, or one that is not

-- Q of every number below n, or R of one.
pub seek : (n : ℕ) (Q R : ℕ → Type 0) → ((i : ℕ) → i < n → Q i ⊎ R i)
    → ((i : ℕ) → i < n → Q i) ⊎ ((i : ℕ) × (i < n) × R i)
seek zero Q R d = inl (λ i l. absurd (nothing i l))
  where
    nothing : (i : ℕ) → i < 0 → ⊥
    nothing i l = omega arith
seek (suc n) Q R d = go (seek n Q R (λ i l. d i (omega arith))) (d n (omega arith))
  where
    go : ((i : ℕ) → i < n → Q i) ⊎ ((i : ℕ) × (i < n) × R i) → Q n ⊎ R n
        → ((i : ℕ) → i < suc n → Q i) ⊎ ((i : ℕ) × (i < suc n) × R i)
    go (inr r) e = inr (r.0, omega arith, r.2)
    go (inl h) (inr q) = inr (n, omega arith, q)
    go (inl h) (inl q) = inl (λ i l. pick i l (dec_lt i n))
      where
        pick : (i : ℕ) → i < suc n → Dec (i < n) → Q i
        pick i l (yes m) = h i m
        pick i l (no m) = let e : i ≡ n = omega arith in subst Q (sym e) q
