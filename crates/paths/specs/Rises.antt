-- Passes lower no time.
use Rattle.std.specs.Prelude.{◌≡◌, refl}
use Rattle.std.proofs.Common.{inl, inr}
use mathlib.Core.List.Memᴰ
use mathlib.Core.List.{List, [], ◌∷◌}
use Prim.Native.Nat.{ℕ, zero, suc, ◌+◌, ◌*◌, ◌≤◌}
use native.Mathlib.Omega.{arith}
use Rattle.std.proofs.Math.Decide.{ℕ_discrete}
use Rattle.std.proofs.Math.ListN.{length}
use Rattle.basics.specs.Places.{at}
use Rattle.paths.specs.Constraint.{Constraint, Fits, fits_tail}
use Rattle.paths.specs.State.{State, relax_of, pass_of, passes_of}
use Rattle.paths.specs.Bounds.{Room, room_kept, relax_size, passes_size}
use Rattle.paths.specs.Relaxed.{Relaxed, relaxed}

-- no time of s' is below that of s
abbrev pub Rises : State → State → Type 0
Rises s s' = (v : ℕ) → at s.time v ≤ at s'.time v

pub relaxed_rises : (c : Constraint) (q : ℕ) (s s' : State) → Relaxed c q s s' → Rises s s'
relaxed_rises c q s s' (inl h) v = rw h.1 (omega arith)
relaxed_rises c q s s' (inr r) v = go (ℕ_discrete v c.from)
  where
    go : Dec (v ≡ c.from) → at s.time v ≤ at s'.time v
    go (yes p) = rw p (omega (arith, r.low, r.time))
    go (no p) = omega (arith, (r.other v p).time)

module _ (N : ℕ) where
  pass_rises : (cs : List Constraint) (q : ℕ) (s : State) → Fits N cs → Room N s → Rises s (pass_of cs q s)
  unfolding pass_of
  pass_rises [] q s f r v = omega arith
  pass_rises (c ∷ cs) q s f r v =
      omega (
        arith,
        relaxed_rises c q s (relax_of c q s) (relaxed N c q s (f.from c (Memᴰ.head refl)) r) v,
        pass_rises cs (suc q) (relax_of c q s) (fits_tail N c cs f) (room_kept N s _ (relax_size c q s) r) v,
      )

  pub passes_rise : (cs : List Constraint) (n : ℕ) (s : State) → Fits N cs → Room N s → Rises s (passes_of cs n s)
  unfolding passes_of
  passes_rise cs zero s f r v = omega arith
  passes_rise cs (suc n) s f r v =
      omega (
        arith,
        passes_rise cs n s f r v,
        pass_rises cs (n * length cs + 1) (passes_of cs n s) f (room_kept N s _ (passes_size cs n s) r) v,
      )
