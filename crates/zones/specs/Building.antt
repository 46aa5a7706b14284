-- The matrix with no bounds, and one bound tightened, told by their solutions.
use Rattle.std.specs.Prelude.{◌≡◌, refl, ◌⊎◌, ◌≢◌, ◌↔◌, List, ℕ, ◌+◌, ◌*◌, ◌≤◌, ◌<◌, min, length, get_or, set}
use Rattle.std.proofs.Common.{ap, ◌∙◌, inl, inr, ⊎_elim, below_more}
use native.Mathlib.Omega.{arith}
use Rattle.std.proofs.Math.Decide.{ℕ_discrete}
use Rattle.std.proofs.Math.ListN.{length-set}
use Rattle.std.proofs.Math.Seq.{get_or-set_same, get_or-set_other}
use Rattle.basics.specs.Choice.{both, min_cases, not_below_zero}
use Rattle.zones.specs.Bound.{◌⊑◌, Sat, ⊑_refl, ⊑_trans}
use Rattle.zones.specs.Values.{sat_mono, sat_self}
use Rattle.zones.specs.Matrix.{Solves, Flat}
use Rattle.zones.specs.Codes.{BIAS, NONE, ZERO, bound, bound_none, bound_some, bound_mono, zero_bound}
use Rattle.zones.specs.Codes.{Coded, coded_top, coded_wider}
use Rattle.zones.specs.Cells.{cell, matrix, Ranged, Clear, Diagonal, tighten_of}

pub ranged_wider : {D N : ℕ} {l : List ℕ} (G : ℕ) → D ≤ G → Ranged D N l → Ranged G N l
ranged_wider {D} {N} {l} G d r =
    record { full = r.full; coded = λ a b ha hb. coded_wider D G (cell l a b) d (r.coded a b ha hb) }

-- ---- No bounds

pub clear_none : (l : List ℕ) → length l ≡ 441 → Clear 0 l
clear_none l e = record { full = e; none = λ k h. absurd (not_below_zero k h) }

pub clear_more : (n : ℕ) (l : List ℕ) → n < 441 → Clear n l → Clear (n + 1) (set l n NONE)
clear_more n l h c = record {
  full = length-set l n NONE ∙ c.full;
  none = below_more (λ k. get_or (set l n NONE) k 0 ≡ NONE) n
      (λ k b. get_or-set_other l n k NONE 0 (omega arith) ∙ c.none k b)
      (get_or-set_same l n NONE 0 (omega (arith, c.full)));
}

pub diagonal_none : (N : ℕ) (l : List ℕ) → N ≤ 21 → Clear (N * 21) l → Diagonal N 0 l
diagonal_none N l h c = record {
  full = c.full;
  on = λ a k. absurd (not_below_zero a k);
  off = λ a b ha hb q. c.none (a * 21 + b) (omega arith);
}

pub diagonal_more : (N n : ℕ) (l : List ℕ) → N ≤ 21 → n < N → Diagonal N n l → Diagonal N (n + 1) (set l (n * 22) ZERO)
diagonal_more N n l m h d = record {
  full = length-set l _ _ ∙ d.full;
  on = below_more (λ a. cell (set l (n * 22) ZERO) a a ≡ ZERO) n
      (λ a k. get_or-set_other l (n * 22) (a * 21 + a) ZERO 0 (omega arith) ∙ d.on a k) self;
  off = off;
}
  where
    self : cell (set l (n * 22) ZERO) n n ≡ ZERO
    self =
        let e : n * 21 + n ≡ n * 22 = omega arith in
        rw e (get_or-set_same l (n * 22) ZERO 0 (omega (arith, d.full)))

    off : (a b : ℕ) → a < N → b < N → (a ≢ b) ⊎ (n + 1 ≤ a) → cell (set l (n * 22) ZERO) a b ≡ NONE
    off a b ha hb q =
        get_or-set_other l (n * 22) (a * 21 + b) ZERO 0 (⊎_elim (λ e. omega arith) (λ e. omega arith) q)
        ∙ d.off a b ha hb (⊎_elim inl (λ e. inr (omega arith)) q)

module _ {N : ℕ} {l : List ℕ} (d : Diagonal N N l) where
  -- What holds of none, and of the weak zero on the diagonal, holds of every cell.
  diagonal_cases : (Q : ℕ → Type 0) (a b : ℕ) → a < N → b < N → (a ≡ b → Q ZERO) → Q NONE → Q (cell l a b)
  diagonal_cases Q a b ha hb p q = go (ℕ_discrete a b)
    where
      go : Dec (a ≡ b) → Q (cell l a b)
      go (yes e) = let z : cell l a b ≡ ZERO = rw (← e) (d.on a ha) in rw z (p e)
      go (no n) = rw (d.off a b ha hb (inl n)) q

  -- It is in every range,
  pub unbounded_ranged : (D : ℕ) → Ranged D N l
  unbounded_ranged D = record { full = d.full; coded = coded }
    where
      coded : (a b : ℕ) → a < N → b < N → Coded D (cell l a b)
      coded a b ha hb =
          diagonal_cases (Coded D) a b ha hb (λ e n. record { low = omega arith; high = omega arith })
          (λ n. absurd (n refl))

  -- every row of values solves it,
  pub unbounded_solves : (P : ℕ) (x : ℕ → ℕ) → 0 < P → Solves N P (matrix l) x
  unbounded_solves P x p a b ha hb =
      diagonal_cases (λ e. Sat P (bound e) (x a) (x b)) a b ha hb
      (λ e. rw e (sat_self P (x b) (bound ZERO) p (zero_bound ZERO (omega arith) (omega arith))))
      (rw (bound_none NONE refl) (record { holds = tt }))

  -- and it is flat.
  pub unbounded_flat : Flat N (matrix l)
  unbounded_flat a ha = rw (d.on a ha, bound_some ZERO (omega arith)) (record { le = omega arith })

-- ---- One bound tightened

-- By a store of the smaller code.
pub tighten_is : (l : List ℕ) (a b e v : ℕ) → v ≡ min (cell l a b) e → set l (a * 21 + b) v ≡ tighten_of a b e l
unfolding tighten_of
tighten_is l a b e v q = ap (set l (a * 21 + b)) q

module _ (D N : ℕ) (l : List ℕ) (small : D ≤ BIAS) (most : N ≤ 21) (r : Ranged D N l)
    (a b e : ℕ) (ha : a < N) (hb : b < N) (c : Coded D e) where
  here : cell (tighten_of a b e l) a b ≡ min (cell l a b) e
  unfolding tighten_of
  here = get_or-set_same l (a * 21 + b) (min (cell l a b) e) 0 (omega (arith, r.full))

  other : (i j : ℕ) → i < N → j < N → ¬ ((i ≡ a) × (j ≡ b)) → cell (tighten_of a b e l) i j ≡ cell l i j
  unfolding tighten_of
  other i j hi hj n =
      get_or-set_other l (a * 21 + b) (i * 21 + j) (min (cell l a b) e) 0 (λ q. n (omega arith, omega arith))

  -- What holds of the cells before and of the tighter code, at its place, holds of the cells after.
  tighten_cases : (Q : ℕ → Type 0) (i j : ℕ) → i < N → j < N → Q (cell l i j)
      → ((i ≡ a) × (j ≡ b) → Q (min (cell l a b) e)) → Q (cell (tighten_of a b e l) i j)
  tighten_cases Q i j hi hj q p = go (both (ℕ_discrete i a) (ℕ_discrete j b))
    where
      go : Dec ((i ≡ a) × (j ≡ b)) → Q (cell (tighten_of a b e l) i j)
      go (yes (s, t)) = rw (s, t, here) (p (s, t))
      go (no n) = rw (other i j hi hj n) q

  -- It stays in the range of the code and the cells,
  pub tighten_ranged : Ranged D N (tighten_of a b e l)
  tighten_ranged = record {
    full = unfold tighten_of in length-set l _ _ ∙ r.full;
    coded = λ i j hi hj.
        tighten_cases (Coded D) i j hi hj (r.coded i j hi hj)
        (λ q. min_cases (Coded D) (cell l a b) e (r.coded a b ha hb) c);
  }

  -- it is no looser than before, nor than the code,
  pub tighten_low : (i j : ℕ) → i < N → j < N → matrix (tighten_of a b e l) i j ⊑ matrix l i j
  tighten_low i j hi hj =
      tighten_cases (λ t. bound t ⊑ matrix l i j) i j hi hj (⊑_refl (matrix l i j))
      (λ q. rw (q.0, q.1) (bound_mono _ (cell l a b) (omega arith) (coded_top D _ small (r.coded a b ha hb))))

  pub tighten_at : matrix (tighten_of a b e l) a b ⊑ bound e
  tighten_at = rw here (bound_mono _ e (omega arith) (coded_top D e small c))

  -- it stays flat,
  pub tighten_flat : Flat N (matrix l) → Flat N (matrix (tighten_of a b e l))
  tighten_flat f i hi = ⊑_trans (tighten_low i i hi hi) (f i hi)

  -- and its solutions are those from before that keep the bound too.
  pub tighten_solves : (P : ℕ) (x : ℕ → ℕ) → 0 < P
      → Solves N P (matrix (tighten_of a b e l)) x ↔ (Solves N P (matrix l) x × Sat P (bound e) (x a) (x b))
  tighten_solves P x p = (out, into)
    where
      out : Solves N P (matrix (tighten_of a b e l)) x → Solves N P (matrix l) x × Sat P (bound e) (x a) (x b)
      out s = (
        λ i j hi hj. sat_mono P (x i) (x j) p (tighten_low i j hi hj) (s i j hi hj),
        sat_mono P (x a) (x b) p tighten_at (s a b ha hb),
      )

      into : Solves N P (matrix l) x × Sat P (bound e) (x a) (x b) → Solves N P (matrix (tighten_of a b e l)) x
      into (s, t) i j hi hj =
          tighten_cases (λ k. Sat P (bound k) (x i) (x j)) i j hi hj (s i j hi hj)
          (λ q. rw (q.0, q.1) (min_cases (λ k. Sat P (bound k) (x a) (x b)) (cell l a b) e (s a b ha hb) t))
