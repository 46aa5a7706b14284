-- The closure of a matrix, told by its solutions: every matrix has one, or has no solution.
use Rattle.std.specs.Prelude.{◌⊎◌, ◌↔◌, ℕ, zero, suc, ◌≤◌, ◌<◌}
use Rattle.std.proofs.Common.{inl, inr, ⊎_elim, arith}
use Rattle.std.proofs.Math.Logic.Iff.{trans as iff_trans}
use Rattle.basics.specs.Choice.{not_below_zero}
use Rattle.zones.specs.Bound.{◌⊑◌, weak_zero, dec⊑, ⊑_trans}
use Rattle.zones.specs.Matrix.{Matrix, Solves, Solution, OthersSettled, Closed, Flat, pivot, pivot_is}
use Rattle.zones.specs.Matrix.{Pivots, start, next, pivots_low, pivots_keep, pivots_back, pivots_fail}
use Rattle.zones.specs.Floyd.{pivots_closed}

-- C is a closure of M: closed, no looser, and with the same solutions.
pub record Closure (N : ℕ) (M C : Matrix) : Type 0 where
  pub closed : Closed N C
  pub low : (a b : ℕ) → a < N → b < N → C a b ⊑ M a b
  pub keeps : (P : ℕ) (x : ℕ → ℕ) → 0 < P → Solves N P M x → Solves N P C x
  pub back : (P : ℕ) (x : ℕ → ℕ) → 0 < P → Solves N P C x → Solves N P M x

-- A closure of a flat matrix is flat.
pub closure_flat : {N : ℕ} {M C : Matrix} → Closure N M C → Flat N M → Flat N C
closure_flat c f a h = ⊑_trans (c.low a a h h) (f a h)

-- C is the canonical matrix of the rows of values in S: closed and flat, and solved by these and no others.
pub record Canonical (N : ℕ) (C : Matrix) (S : ℕ → (ℕ → ℕ) → Type 0) : Type 0 where
  pub closed : Closed N C
  pub flat : Flat N C
  pub is : (P : ℕ) (x : ℕ → ℕ) → 0 < P → Solves N P C x ↔ S P x

-- A closure of a flat matrix is that of its solutions.
pub closure_canonical : {N : ℕ} {M C : Matrix} → Closure N M C → Flat N M → Canonical N C (λ P x. Solves N P M x)
closure_canonical c f = record {
  closed = c.closed;
  flat = closure_flat c f;
  is = λ P x p. (c.back P x p, c.keeps P x p);
}

-- The same rows, told in another way.
pub canonical_for : {N : ℕ} {C : Matrix} {S : ℕ → (ℕ → ℕ) → Type 0} (T : ℕ → (ℕ → ℕ) → Type 0) → Canonical N C S
    → ((P : ℕ) (x : ℕ → ℕ) → 0 < P → S P x ↔ T P x) → Canonical N C T
canonical_for T c e = record {
  closed = c.closed;
  flat = c.flat;
  is = λ P x p. iff_trans (c.is P x p) (e P x p);
}

-- Pivots in turn make a closure where the other vertices are settled.
pub pivots_closure : {N from k : ℕ} {M C : Matrix} → Pivots N from M k C → OthersSettled N from k M → Closure N M C
pivots_closure r others = record {
  closed = pivots_closed r others;
  low = pivots_low r;
  keeps = pivots_keep r;
  back = pivots_back r;
}

-- Where all are pivoted there are no others.
pub no_others : (N : ℕ) (M : Matrix) → OthersSettled N 0 N M
no_others N M c h q = absurd (⊎_elim (not_below_zero c) (λ l. not_below_zero 0 (omega arith)) q)

-- The first k pivots can be made, or there is no solution.
pivoting : (N : ℕ) (M : Matrix) (k : ℕ) → k ≤ N → ((L : Matrix) × Pivots N 0 M k L) ⊎ (¬ Solution N M)
pivoting N M zero h = inl (M, start {k = 0} (omega arith))
pivoting N M (suc k) h = ⊎_elim (λ (L, r). go L r (dec⊑ weak_zero (L k k))) inr (pivoting N M k (omega arith))
  where
    go : (L : Matrix) → Pivots N 0 M k L → Dec (weak_zero ⊑ L k k)
        → ((L : Matrix) × Pivots N 0 M (suc k) L) ⊎ (¬ Solution N M)
    go L r (yes z) = inl (pivot k L, next r (omega arith) h z (pivot_is N k L))
    go L r (no n) = inr (pivots_fail r h n)

-- A matrix has a closure, or no solution.
pub closing : (N : ℕ) (M : Matrix) → ((C : Matrix) × Closure N M C) ⊎ (¬ Solution N M)
closing N M = ⊎_elim (λ r. inl (r.0, pivots_closure r.1 (no_others N M))) inr (pivoting N M N (omega arith))
