-- Difference bound matrices: their solutions, pivots, and what a pivot does to the solutions.
use Rattle.std.specs.Prelude.{◌⊎◌, ℕ, suc, ◌≤◌, ◌<◌}
use Rattle.std.proofs.Common.{⊎_elim, arith}
use Rattle.zones.specs.Bound.{Bound, ◌⊑◌, ◌⊕◌, weak_zero, Sat, least, least_is, ⊑_refl, ⊑_trans}
use Rattle.zones.specs.Values.{sat_mono, sat_sum, self_sat}

-- M a b bounds the value at b less the value at a.
abbrev pub Matrix : Type 0
Matrix = ℕ → ℕ → Bound

-- The row x of values keeps every bound among the first N vertices of M, in P parts to a tick.
abbrev pub Solves : ℕ → ℕ → Matrix → (ℕ → ℕ) → Type 0
Solves N P M x = (a b : ℕ) → a < N → b < N → Sat P (M a b) (x a) (x b)

-- Some row of values does, in some parts.
abbrev pub Solution : ℕ → Matrix → Type 0
Solution N M = (P : ℕ) × (0 < P) × ((x : ℕ → ℕ) × Solves N P M x)

-- Vertex c is settled: no way by c is shorter than the entry, and its diagonal is not below zero.
pub record Settled (N : ℕ) (M : Matrix) (c : ℕ) : Type 0 where
  pub tri : (a b : ℕ) → a < N → b < N → M a b ⊑ M a c ⊕ M c b
  pub diag : weak_zero ⊑ M c c

-- Every vertex is, but for from .. to - 1.
abbrev pub OthersSettled : ℕ → ℕ → ℕ → Matrix → Type 0
OthersSettled N from to M = (c : ℕ) → c < N → (c < from) ⊎ (to ≤ c) → Settled N M c

-- Closed: every vertex is settled.
pub record Closed (N : ℕ) (M : Matrix) : Type 0 where
  pub tri : (a b c : ℕ) → a < N → b < N → c < N → M a b ⊑ M a c ⊕ M c b
  pub diag : (a : ℕ) → a < N → weak_zero ⊑ M a a

-- The diagonal says no more than that a value is at most itself.
abbrev pub Flat : ℕ → Matrix → Type 0
Flat N M = (a : ℕ) → a < N → M a a ⊑ weak_zero

-- L is M after one pivot p: each entry is the tighter of what it was and of the way through p.
pub record Pivot (N p : ℕ) (M L : Matrix) : Type 0 where
  pub low : (a b : ℕ) → a < N → b < N → L a b ⊑ M a b
  pub via : (a b : ℕ) → a < N → b < N → L a b ⊑ M a p ⊕ M p b
  pub kept : (a b : ℕ) → a < N → b < N → (M a b ⊑ L a b) ⊎ (M a p ⊕ M p b ⊑ L a b)

-- L is M after the pivots from .. k - 1 in turn, each at a diagonal entry that is not below zero.
pub data Pivots (N from : ℕ) (M : Matrix) : ℕ → Matrix → Type 0 where
  start : {k : ℕ} → k ≤ from → Pivots N from M k M
  next : {k : ℕ} {K L : Matrix} → Pivots N from M k K → from ≤ k → k < N → weak_zero ⊑ K k k → Pivot N k K L
      → Pivots N from M (suc k) L

-- ---- The pivot as a function

-- Each entry, or the way through p where that is tighter.
unfoldable pub pivot : ℕ → Matrix → Matrix
pivot p M a b = least (M a b) (M a p ⊕ M p b)

pub pivot_is : (N p : ℕ) (M : Matrix) → Pivot N p M (pivot p M)
unfolding pivot
pivot_is N p M = record {
  low = λ a b ha hb. (least_is _ _).0;
  via = λ a b ha hb. (least_is _ _).1;
  kept = λ a b ha hb. (least_is _ _).2;
}

-- ---- Settled and closed

pub settled_closed : {N : ℕ} {M : Matrix} → ((c : ℕ) → c < N → Settled N M c) → Closed N M
settled_closed s = record { tri = λ a b c ha hb hc. (s c hc).tri a b ha hb; diag = λ a ha. (s a ha).diag }

-- ---- Pivots and solutions

-- Pivots only tighten.
pub pivots_low : {N from : ℕ} {M : Matrix} {k : ℕ} {L : Matrix} → Pivots N from M k L → (a b : ℕ) → a < N → b < N → L a b ⊑ M a b
pivots_low (start f) a b ha hb = ⊑_refl _
pivots_low (next r f h z v) a b ha hb = ⊑_trans (v.low a b ha hb) (pivots_low r a b ha hb)

-- What solves a matrix solves it after a pivot,
pivot_keeps : {N p : ℕ} {M L : Matrix} → Pivot N p M L → p < N
    → (P : ℕ) (x : ℕ → ℕ) → 0 < P → Solves N P M x → Solves N P L x
pivot_keeps {N} {p} {M} v h P x l s a b ha hb =
    ⊎_elim (λ e. sat_mono P (x a) (x b) l e (s a b ha hb)) (λ e. sat_mono P (x a) (x b) l e way) (v.kept a b ha hb)
  where
    way : Sat P (M a p ⊕ M p b) (x a) (x b)
    way = sat_sum P (x a) (x p) (x b) (M a p) (M p b) (s a p ha h) (s p b h hb)

-- and after pivots in turn,
pub pivots_keep : {N from : ℕ} {M : Matrix} {k : ℕ} {L : Matrix} → Pivots N from M k L
    → (P : ℕ) (x : ℕ → ℕ) → 0 < P → Solves N P M x → Solves N P L x
pivots_keep (start f) P x l s = s
pivots_keep (next r f h z v) P x l s = pivot_keeps v h P x l (pivots_keep r P x l s)

-- and the other way round.
pub pivots_back : {N from : ℕ} {M : Matrix} {k : ℕ} {L : Matrix} → Pivots N from M k L
    → (P : ℕ) (x : ℕ → ℕ) → 0 < P → Solves N P L x → Solves N P M x
pivots_back r P x l s a b ha hb = sat_mono P (x a) (x b) l (pivots_low r a b ha hb) (s a b ha hb)

-- A diagonal entry below zero, a negative cycle, leaves no solution.
pub pivots_fail : {N from : ℕ} {M : Matrix} {k : ℕ} {L : Matrix} → Pivots N from M k L → k < N → ¬ (weak_zero ⊑ L k k) → ¬ Solution N M
pivots_fail {k = k} {L = L} r h n (P, l, (x, s)) = n (self_sat P (x k) (L k k) l (pivots_keep r P x l s k k h h))

-- The first vertices of a matrix are pivoted as it is, as long as each pivot is one of them.
pub pivots_narrow : {N from : ℕ} {M : Matrix} {k : ℕ} {L : Matrix} → Pivots N from M k L → (n : ℕ) → k ≤ n → n ≤ N → Pivots n from M k L
pivots_narrow (start f) n h l = start f
pivots_narrow (next r f h z v) n k l = next (pivots_narrow r n (omega arith) l) f (omega arith) z (record {
  low = λ a b ha hb. v.low a b (omega arith) (omega arith);
  via = λ a b ha hb. v.via a b (omega arith) (omega arith);
  kept = λ a b ha hb. v.kept a b (omega arith) (omega arith);
})
