-- What the program's closing says of the matrix given: its closure, or that it has no solution.
use Rattle.std.specs.Prelude.{◌≡◌, ◌⊎◌, Bool, true, false, List, ℕ, suc, ◌+◌, ◌*◌, ◌≤◌, ◌<◌, length}
use Rattle.std.proofs.Common.{inl, inr, ⊎_elim, arith, mul-le-mul_right, add-one}
use Rattle.basics.specs.Choice.{min_is}
use Rattle.zones.specs.Bound.{◌⊑◌, ◌⊕◌, weak_zero, ⊑_refl, ⊑_trans}
use Rattle.zones.specs.Matrix.{Solution, OthersSettled, Pivot, Pivots, next, pivots_fail}
use Rattle.zones.specs.Closure.{Closure, pivots_closure}
use Rattle.zones.specs.Linear.{AllWithin, linear}
use Rattle.zones.specs.Codes.{BIAS, NONE, ZERO, bound_mono, zero_bound, bound_zero}
use Rattle.zones.specs.Codes.{sum_of, Sums, sums, coded_top, coded_within, within_coded}
use Rattle.zones.specs.Cells.{cell, matrix, Ranged}
use Rattle.closing.specs.Rows.{RowsTo}

-- What is found of the first N vertices of l by pivots at from .. N - 1: all of them, and then the cells z; or some of
-- them and then a diagonal below zero.
pub record Closing (N from : ℕ) (l z : List ℕ) (ok : Bool) : Type 0 where
  pub all : ok ≡ true → Pivots N from (matrix l) N (matrix z)
  pub negative : ok ≡ false
      → (p : ℕ) × (p < N) × Pivots N from (matrix l) p (matrix z) × (¬ (weak_zero ⊑ matrix z p p))

module _ {N from : ℕ} {l z : List ℕ} {ok : Bool} (c : Closing N from l z ok) where
  -- The cells are a closure, where the vertices that are not pivoted are settled,
  pub closing_closure : OthersSettled N from N (matrix l) → ok ≡ true → Closure N (matrix l) (matrix z)
  closing_closure others e = pivots_closure (c.all e) others

  -- or there is no solution.
  pub closing_fails : ok ≡ false → ¬ Solution N (matrix l)
  closing_fails e = let (p, h, v, n) = c.negative e in pivots_fail v h n

-- ---- One pivot

-- In range, rows pivoted on codes are a pivot on bounds.
pub pivot_codes : {N p : ℕ} {l z : List ℕ} (D : ℕ) → 2 * D ≤ BIAS → Ranged D N l → p < N → RowsTo N p N l z
    → Pivot N p (matrix l) (matrix z)
pivot_codes {N} {p} {l} {z} D small r hp s = record { low = low; via = by; kept = kept }
  where
    way : ℕ → ℕ → ℕ
    way a b = sum_of (cell l a p) (cell l p b)

    way_sums : (a b : ℕ) → a < N → b < N → Sums (cell l a p) (cell l p b) (way a b)
    way_sums a b ha hb = sums D (cell l a p) (cell l p b) small (r.coded a p ha hp) (r.coded p b hp hb)

    low : (a b : ℕ) → a < N → b < N → matrix z a b ⊑ matrix l a b
    low a b ha hb =
        rw (s.done a b ha hb)
        (bound_mono _ (cell l a b) (omega arith) (coded_top D _ (omega arith) (r.coded a b ha hb)))

    by : (a b : ℕ) → a < N → b < N → matrix z a b ⊑ matrix l a p ⊕ matrix l p b
    by a b ha hb =
        rw (s.done a b ha hb)
        (⊑_trans (bound_mono _ (way a b) (omega arith) (way_sums a b ha hb).top) (way_sums a b ha hb).under)

    kept : (a b : ℕ) → a < N → b < N
        → (matrix l a b ⊑ matrix z a b) ⊎ (matrix l a p ⊕ matrix l p b ⊑ matrix z a b)
    kept a b ha hb =
        rw (s.done a b ha hb)
        (⊎_elim (λ e. inl (rw e (⊑_refl _))) (λ e. inr (rw e (way_sums a b ha hb).over))
        (min_is (cell l a b) (way a b)))

-- ---- Pivots in turn

module _ {D N : ℕ} {l : List ℕ} (small : 2 * (21 * D) ≤ BIAS) (most : N ≤ 21) (r : Ranged D N l) (from p : ℕ) (z : List ℕ)
    (full : length z ≡ 441) (v : Pivots N from (matrix l) p (matrix z)) (h : p < N) where
  -- The cells stay in a range in which no sum wraps;
  pub pivots_ranged : Ranged (suc p * D) N z
  pivots_ranged = record {
    full = full;
    coded = λ a b ha hb. within_coded (suc p * D) (cell z a b) (linear D within v a b ha hb);
  }
    where
      within : AllWithin N D (matrix l)
      within a b ha hb = coded_within D (cell l a b) (r.coded a b ha hb)

  fit : 2 * (suc p * D) ≤ BIAS
  fit = omega (arith, mul-le-mul_right D h, mul-le-mul_right D most)

  -- one pivot more, where the diagonal is not below zero,
  pub pivots_more : from ≤ p → ZERO ≤ cell z p p → (y : List ℕ) → RowsTo N p N z y
      → Pivots N from (matrix l) (p + 1) (matrix y)
  pivots_more f t y s =
      rw (add-one p)
      (next v f h (zero_bound (cell z p p) top t) (pivot_codes (suc p * D) fit pivots_ranged h s))
    where
      top : cell z p p ≤ NONE
      top = coded_top (suc p * D) (cell z p p) (omega (arith, fit)) (pivots_ranged.coded p p h h)

  -- and no more where it is.
  pub pivots_stop : ¬ (ZERO ≤ cell z p p) → Closing N from l z false
  pivots_stop n = record {
    all = λ e. absurd (clash e);
    negative = λ e. (p, h, v, λ w. n (bound_zero (cell z p p) w));
  }
    where
      clash : false ≡ true → ⊥
      clash q = let e : ◌≡◌ {A = ℕ} 0 1 = cc in omega arith

-- After the last one.
pub pivots_all : {N from : ℕ} {l z : List ℕ} → Pivots N from (matrix l) N (matrix z) → Closing N from l z true
pivots_all v = record { all = λ e. v; negative = λ e. absurd (clash e) }
  where
    clash : true ≡ false → ⊥
    clash q = let e : ◌≡◌ {A = ℕ} 0 1 = cc in omega arith
