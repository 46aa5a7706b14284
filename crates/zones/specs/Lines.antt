-- Codes of one list copied into another.
use Rattle.std.specs.Prelude.{◌≡◌, refl, ◌⊎◌, List, ℕ, ◌+◌, ◌≤◌, ◌<◌, length, get_or, set}
use Rattle.std.proofs.Common.{◌∙◌, inl, inr, ⊎_elim, arith, length-set, get_or-set_same, get_or-set_other, below_more}
use Rattle.basics.specs.Choice.{not_below_zero}

-- z is m with n codes of l from index `from` on copied from index `to` on.
pub record LineTo (to from n : ℕ) (l m z : List ℕ) : Type 0 where
  pub full : length z ≡ length m
  pub done : (c : ℕ) → c < n → get_or z (to + c) 0 ≡ get_or l (from + c) 0
  pub rest : (k : ℕ) → (k < to) ⊎ (to + n ≤ k) → get_or z k 0 ≡ get_or m k 0

-- ---- Code by code, as a loop takes them

pub line_none : (to from : ℕ) (l m : List ℕ) → LineTo to from 0 l m m
line_none to from l m = record { full = refl; done = λ c h. absurd (not_below_zero c h); rest = λ k q. refl }

pub line_more : (to from n : ℕ) (l m z : List ℕ) → to + n < length m → LineTo to from n l m z
    → LineTo to from (n + 1) l m (set z (to + n) (get_or l (from + n) 0))
line_more to from n l m z h t = record {
  full = length-set z _ _ ∙ t.full;
  done = below_more (λ c. get_or (set z (to + n) (get_or l (from + n) 0)) (to + c) 0 ≡ get_or l (from + c) 0) n
      (λ c k. get_or-set_other z (to + n) (to + c) (get_or l (from + n) 0) 0 (omega arith) ∙ t.done c k)
      (get_or-set_same z (to + n) (get_or l (from + n) 0) 0 (omega (arith, t.full)));
  rest = λ k q.
      get_or-set_other z (to + n) k (get_or l (from + n) 0) 0 (⊎_elim (λ e. omega arith) (λ e. omega arith) q)
      ∙ t.rest k (⊎_elim inl (λ e. inr (omega arith)) q);
}
