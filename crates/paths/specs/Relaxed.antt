-- One check as a relation between the state before and the state after.
use Rattle.std.specs.Prelude.{◌≡◌, refl, ◌⊎◌, ◌≢◌, Bool, true, false, cond, ℕ, ◌+◌, ◌≤◌, ◌<◌}
use Rattle.std.proofs.Common.{inl, inr, arith, get_or-set_same, get_or-set_other, ltb-true}
use Rattle.std.proofs.Math.Decide.{ℕ_discrete}
use Rattle.basics.specs.Places.{at}
use Rattle.paths.specs.Constraint.{Constraint, Holds}
use Rattle.paths.specs.State.{State, low_of, raise_of, relax_of, Below, low_holds}
use Rattle.paths.specs.Bounds.{Room}

-- Nothing has changed at v.
pub record Kept (s s' : State) (v : ℕ) : Type 0 where
  pub time : at s'.time v ≡ at s.time v
  pub parent : at s'.parent v ≡ at s.parent v
  pub stamp : at s'.stamp v ≡ at s.stamp v

-- s' is s after a check of c, with the stamp q, that has raised the time of its vertex.
pub record Raised (c : Constraint) (q : ℕ) (s s' : State) : Type 0 where
  pub low : at s.time c.from + c.loss < at s.time c.to + c.gain
  pub time : at s'.time c.from + c.loss ≡ at s.time c.to + c.gain
  pub parent : at s'.parent c.from ≡ c.to
  pub stamp : at s'.stamp c.from ≡ q
  pub other : (v : ℕ) → v ≢ c.from → Kept s s' v

-- The check has found that c holds, or has raised a time.
abbrev pub Relaxed : Constraint → ℕ → State → State → Type 0
Relaxed c q s s' = (Holds c (at s.time) × (s' ≡ s)) ⊎ Raised c q s s'

-- The definition by lists is such a check.
pub relaxed : (N : ℕ) (c : Constraint) (q : ℕ) (s : State) → c.from < N → Room N s → Relaxed c q s (relax_of c q s)
unfolding relax_of
relaxed N c q s f r = go (low_of c s.time) refl
  where
    go : (b : Bool) → low_of c s.time ≡ b → Relaxed c q s (cond b (raise_of c q s) s)
    go true p = inr (record {
      low = low;
      time = rw (get_or-set_same s.time c.from _ 0 (omega (arith, r.time))) (omega (arith, low));
      parent = get_or-set_same s.parent c.from _ 0 (omega (arith, r.parent));
      stamp = get_or-set_same s.stamp c.from _ 0 (omega (arith, r.stamp));
      other = λ v n. record {
        time = get_or-set_other s.time c.from v _ 0 n;
        parent = get_or-set_other s.parent c.from v _ 0 n;
        stamp = get_or-set_other s.stamp c.from v _ 0 n;
      };
    })
      where
        low : at s.time c.from + c.loss < at s.time c.to + c.gain
        low = ltb-true _ _ p
    go false p = inl (low_holds c s.time p, refl)

-- A check does not pass a solution x that the times are not above.
pub relaxed_least : (N : ℕ) (c : Constraint) (q : ℕ) (s s' : State) (x : ℕ → ℕ) → c.to < N → Holds c x
    → Relaxed c q s s' → Below N s.time x → Below N s'.time x
relaxed_least N c q s s' x t holds (inl h) b v w = rw h.1 (b v w)
relaxed_least N c q s s' x t holds (inr r) b v w = go (ℕ_discrete v c.from)
  where
    go : Dec (v ≡ c.from) → at s'.time v ≤ x v
    go (yes p) = rw p (omega (arith, holds, b c.to t))
    go (no p) = omega (arith, (r.other v p).time, b v w)
