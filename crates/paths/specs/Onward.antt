-- Constraints that one pass settles: none of them raises the end of itself or of one before it.
use Rattle.std.specs.Prelude.{◌≡◌, refl, ◌⊎◌, ◌≢◌, ℕ, suc}
use Rattle.std.proofs.Common.{sym, inl, inr, ⊎_elim, arith}
use mathlib.Core.List.Memᴰ
use mathlib.Core.List.{List, [], ◌∷◌, ◌++◌, Memᴰ}
use Rattle.basics.specs.Places.{at}
use Rattle.paths.specs.Constraint.{Constraint, Holds, All, Fits, fits_tail}
use Rattle.paths.specs.State.{State, relax_of, pass_of}
use Rattle.paths.specs.Bounds.{Room, room_kept, relax_size}
use Rattle.paths.specs.Relaxed.{Relaxed, relaxed}
use Rattle.paths.specs.Rises.{relaxed_rises}

pub data Onward : List Constraint → Type 0 where
  none : Onward []
  more : {c : Constraint} {cs : List Constraint} → c.from ≢ c.to
      → ((d : Constraint) → Memᴰ d cs → d.from ≢ c.to) → Onward cs → Onward (c ∷ cs)

-- no constraint of cs raises the end of one of them
pub onward_all : (cs : List Constraint) → ((c d : Constraint) → Memᴰ c cs → Memᴰ d cs → d.from ≢ c.to) → Onward cs
onward_all [] h = none
onward_all (c ∷ cs) h =
    more (h c c (Memᴰ.head refl) (Memᴰ.head refl)) (λ d m. h c d (Memᴰ.head refl) (Memᴰ.tail m))
    (onward_all cs (λ b d k m. h b d (Memᴰ.tail k) (Memᴰ.tail m)))

-- one list after the other
pub onward_append : (xs ys : List Constraint) → Onward xs → Onward ys
    → ((c d : Constraint) → Memᴰ c xs → Memᴰ d ys → d.from ≢ c.to) → Onward (xs ++ ys)
onward_append [] ys none o h = o
onward_append (c ∷ xs) ys (more n k r) o h =
    more n (λ d m. ⊎_elim (k d) (h c d (Memᴰ.head refl)) (Memᴰ.append_cases xs m))
    (onward_append xs ys r o (λ b d m. h b d (Memᴰ.tail m)))

-- ---- a check makes its constraint hold, and breaks none whose end it does not raise
checked_holds : (c : Constraint) (q : ℕ) (s s' : State) → c.from ≢ c.to → Relaxed c q s s' → Holds c (at s'.time)
checked_holds c q s s' n (inl h) = rw h.1 h.0
checked_holds c q s s' n (inr r) = omega (arith, r.time, (r.other c.to (λ e. n (sym e))).time)

checked_keeps : (c d : Constraint) (q : ℕ) (s s' : State) → d.from ≢ c.to → Relaxed d q s s' → Holds c (at s.time)
    → Holds c (at s'.time)
checked_keeps c d q s s' n (inl h) k = rw h.1 k
checked_keeps c d q s s' n (inr r) k =
    omega (arith, k, (r.other c.to (λ e. n (sym e))).time, relaxed_rises d q s s' (inr r) c.from)

module _ (N : ℕ) where
  pass_keeps : (c : Constraint) (cs : List Constraint) (q : ℕ) (s : State) → Fits N cs → Room N s
      → ((d : Constraint) → Memᴰ d cs → d.from ≢ c.to) → Holds c (at s.time) → Holds c (at (pass_of cs q s).time)
  unfolding pass_of
  pass_keeps c [] q s f r n h = h
  pass_keeps c (d ∷ cs) q s f r n h =
      pass_keeps c cs (suc q) (relax_of d q s) (fits_tail N d cs f) (room_kept N s _ (relax_size d q s) r)
      (λ e m. n e (Memᴰ.tail m))
      (checked_keeps c d q s (relax_of d q s) (n d (Memᴰ.head refl))
      (relaxed N d q s (f.from d (Memᴰ.head refl)) r) h)

  -- After one pass all of them hold.
  pub onward_settles : (cs : List Constraint) (q : ℕ) (s : State) → Fits N cs → Room N s → Onward cs
      → All cs (at (pass_of cs q s).time)
  unfolding pass_of
  onward_settles [] q s f r none c m = absurd (Memᴰ.not-nil m)
  onward_settles (c ∷ cs) q s f r (more n k o) d m =
      go (onward_settles cs (suc q) (relax_of c q s) (fits_tail N c cs f) (room_kept N s _ (relax_size c q s) r) o d)
      (Memᴰ.cases_cons m)
    where
      next : State
      next = relax_of c q s

      room : Room N next
      room = room_kept N s next (relax_size c q s) r

      here : Holds c (at (pass_of cs (suc q) next).time)
      here =
          pass_keeps c cs (suc q) next (fits_tail N c cs f) room k
          (checked_holds c q s next n (relaxed N c q s (f.from c (Memᴰ.head refl)) r))

      go : (Memᴰ d cs → Holds d (at (pass_of cs (suc q) next).time)) → (d ≡ c) ⊎ Memᴰ d cs
          → Holds d (at (pass_of cs (suc q) next).time)
      go later (inl e) = rw e here
      go later (inr l) = later l
