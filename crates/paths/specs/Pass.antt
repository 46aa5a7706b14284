-- Passes over a list of constraints: what they keep, and what a pass that raised nothing or something tells.
use Rattle.std.specs.Prelude.{◌≡◌, ◌⊎◌, Bool, ◌||◌, drop}
use Rattle.std.proofs.Math.Path.{refl, ap, subst}
use Rattle.std.proofs.Common.{sym, ◌∙◌, inl, inr, true≢false, add-zero, suc-mul, zero-mul, mod-eq_of_lt, add-one, arith, drop-cons}
use Rattle.std.proofs.Math.Bool.{true, false}
use Rattle.std.proofs.lemmas.Bool.{false≢true}
use mathlib.Core.List.{List, [], ◌∷◌, Memᴰ}
use mathlib.Core.List.Memᴰ
use Prim.Native.Nat.{ℕ, zero, suc, ◌+◌, ◌*◌, ◌%◌, ◌≤◌, ◌<◌}
use Rattle.std.proofs.Math.Nat.{mul-add-mod_self_right}
use Rattle.std.proofs.Math.Decide.{ℕ_discrete}
use Rattle.std.proofs.Math.ListN.{length, length-drop}
use Rattle.basics.specs.Places.{at}
use Rattle.paths.specs.Constraint.{Constraint, Holds, All, nth, nth_member, Fits, fits_tail}
use Rattle.paths.specs.State.{State, low_of, relax_of, pass_of, hits_of}
use Rattle.paths.specs.State.{passes_of, Below, low_broken, low_holds, relax_miss}
use Rattle.paths.specs.Bounds.{Room, room_kept, relax_size, passes_size}
use Rattle.paths.specs.Relaxed.{Relaxed, relaxed, relaxed_least}
use Rattle.paths.specs.Invariant.{Inv, inv_none, step}

-- What the passes over cs begin with: any times, and no vertex stamped.
pub record Start (N : ℕ) (cs : List Constraint) (s : State) : Type 0 where
  pub fits : Fits N cs
  pub room : Room N s
  pub unstamped : (v : ℕ) → v < N → at s.stamp v ≡ 0

-- ---- a pass that raised nothing
pub record Quiet (cs : List Constraint) (q : ℕ) (s : State) : Type 0 where
  pub kept : pass_of cs q s ≡ s
  pub holds : All cs (at s.time)

-- It leaves everything as it was, and the times satisfy every constraint.
pub quiet : (cs : List Constraint) (q : ℕ) (s : State) → hits_of cs q s ≡ false → Quiet cs q s
unfolding pass_of hits_of
quiet [] q s p = record { kept = refl; holds = λ c m. absurd (Memᴰ.not-nil m) }
quiet (c ∷ cs) q s p = go (low_of c s.time) refl p (quiet cs (suc q) (relax_of c q s))
  where
    go : (b : Bool) → low_of c s.time ≡ b → (b || hits_of cs (suc q) (relax_of c q s)) ≡ false
        → (hits_of cs (suc q) (relax_of c q s) ≡ false → Quiet cs (suc q) (relax_of c q s)) → Quiet (c ∷ cs) q s
    go true e p ih = absurd (true≢false p)
    go false e p ih = record { kept = (ih p).kept ∙ same; holds = λ d m. here d (Memᴰ.cases_cons m) }
      where
        same : relax_of c q s ≡ s
        same = relax_miss c q s e

        here : (d : Constraint) → (d ≡ c) ⊎ Memᴰ d cs → Holds d (at s.time)
        here d (inl h) = rw h (low_holds c s.time e)
        here d (inr m) = rw same at ((ih p).holds d m)

-- So after it the times are a solution.
pub settled : (cs : List Constraint) (q : ℕ) (s : State) → hits_of cs q s ≡ false → All cs (at (pass_of cs q s).time)
settled cs q s p = rw (quiet cs q s p).kept (quiet cs q s p).holds

-- ---- a solution that the times are not above before the checks they are not above after them
module _ (N : ℕ) (x : ℕ → ℕ) where
  pub pass_least : (cs : List Constraint) (q : ℕ) (s : State) → Fits N cs → Room N s → All cs x
      → Below N s.time x → Below N (pass_of cs q s).time x
  unfolding pass_of
  pass_least [] q s f r all b = b
  pass_least (c ∷ cs) q s f r all b =
      pass_least cs (suc q) (relax_of c q s) (fits_tail N c cs f) (room_kept N s _ (relax_size c q s) r)
      (λ d m. all d (Memᴰ.tail m))
      (relaxed_least N c q s (relax_of c q s) x (f.to c (Memᴰ.head refl)) (all c (Memᴰ.head refl))
      (relaxed N c q s (f.from c (Memᴰ.head refl)) r)
      b)

  pub passes_least : (cs : List Constraint) (n : ℕ) (s : State) → Fits N cs → Room N s → All cs x
      → Below N s.time x → Below N (passes_of cs n s).time x
  unfolding passes_of
  passes_least cs zero s f r all b = b
  passes_least cs (suc n) s f r all b =
      pass_least cs (n * length cs + 1) (passes_of cs n s) f (room_kept N s _ (passes_size cs n s) r) all
      (passes_least cs n s f r all b)

-- ---- a pass that raised something
module _ (N : ℕ) where
  -- a stamp up to q does not fall below
  later : (cs : List Constraint) (q k v : ℕ) (s : State) → Fits N cs → Room N s → k ≤ q
      → k ≤ at s.stamp v → k ≤ at (pass_of cs q s).stamp v
  unfolding pass_of
  later [] q k v s f r l h = h
  later (c ∷ cs) q k v s f r l h =
      later cs (suc q) k v (relax_of c q s) (fits_tail N c cs f) (room_kept N s _ (relax_size c q s) r) (omega arith)
      (go (relaxed N c q s (f.from c (Memᴰ.head refl)) r))
    where
      go : Relaxed c q s (relax_of c q s) → k ≤ at (relax_of c q s).stamp v
      go (inl e) = rw e.1 h
      go (inr r) = more (ℕ_discrete v c.from)
        where
          more : Dec (v ≡ c.from) → k ≤ at (relax_of c q s).stamp v
          more (yes p) = rw p (omega (arith, r.stamp))
          more (no p) = omega (arith, (r.other v p).stamp)

  -- It leaves a vertex with a stamp of its own.
  pub loud : (cs : List Constraint) (q : ℕ) (s : State) → Fits N cs → Room N s → hits_of cs q s ≡ true
      → (v : ℕ) × (v < N) × (q ≤ at (pass_of cs q s).stamp v)
  unfolding pass_of hits_of
  loud [] q s f r p = absurd (false≢true p)
  loud (c ∷ cs) q s f r p =
      go (low_of c s.time) refl p (relaxed N c q s (f.from c (Memᴰ.head refl)) r)
      (loud cs (suc q) (relax_of c q s) (fits_tail N c cs f) (room_kept N s _ (relax_size c q s) r))
    where
      go : (b : Bool) → low_of c s.time ≡ b → (b || hits_of cs (suc q) (relax_of c q s)) ≡ true
          → Relaxed c q s (relax_of c q s)
          → (hits_of cs (suc q) (relax_of c q s) ≡ true
          → (v : ℕ) × (v < N) × (suc q ≤ at (pass_of cs (suc q) (relax_of c q s)).stamp v))
          → (v : ℕ) × (v < N) × (q ≤ at (pass_of cs (suc q) (relax_of c q s)).stamp v)
      go false e p d ih = ((ih p).0, (ih p).1, omega (arith, (ih p).2))
      go true e p d ih = (
        c.from,
        f.from c (Memᴰ.head refl),
        later cs (suc q) q c.from (relax_of c q s) (fits_tail N c cs f) (room_kept N s _ (relax_size c q s) r)
            (omega arith)
            (new d),
      )
        where
          new : Relaxed c q s (relax_of c q s) → q ≤ at (relax_of c q s).stamp c.from
          new (inl h) = absurd (low_broken c s.time e h.0)
          new (inr h) = omega (arith, h.stamp)

-- ---- the invariant
module _ (N : ℕ) (cs : List Constraint) (fits : Fits N cs) where
  -- the rest of pass number r, from the constraint e on
  rest_inv : (r e n : ℕ) (ys : List Constraint) (s : State) → n ≡ r * length cs + e → drop e cs ≡ ys → Room N s
      → Inv N cs n s → Inv N cs (n + length ys) (pass_of ys (suc n) s)
  unfolding pass_of
  rest_inv r e n [] s p d room i = subst (λ (k : ℕ). Inv N cs k s) (sym (add-zero n)) i
  rest_inv r e n (c ∷ ys) s p d room i =
      subst (λ (k : ℕ). Inv N cs k (pass_of ys (suc (suc n)) (relax_of c (suc n) s))) (omega arith)
      (rest_inv r (suc e) (suc n) ys (relax_of c (suc n) s) (omega arith) tail
      (room_kept N s _ (relax_size c (suc n) s) room)
      (step N cs fits n c member turn s (relax_of c (suc n) s) i
      (relaxed N c (suc n) s (fits.from c member) room)))
    where
      below : e < length cs
      below = omega (arith, ap length d, length-drop e cs)

      split : nth cs e ∷ drop (suc e) cs ≡ c ∷ ys
      split = sym (drop-cons cs e _ below) ∙ d

      here : nth cs e ≡ c
      here = cc split

      tail : drop (suc e) cs ≡ ys
      tail = cc split

      member : Memᴰ c cs
      member = subst (λ (x : Constraint). Memᴰ x cs) here (nth_member cs e below)

      turn : nth cs (n % length cs) ≡ c
      turn =
          ap (λ (k : ℕ). nth cs (k % length cs)) p
          ∙ ap (nth cs) (mul-add-mod_self_right r (length cs) e ∙ mod-eq_of_lt below)
          ∙ here

  -- After n passes from an unstamped start the invariant holds for all their checks.
  pub passes_inv : (s : State) → Start N cs s → (n : ℕ) → Inv N cs (n * length cs) (passes_of cs n s)
  unfolding passes_of
  passes_inv s b zero = subst (λ (k : ℕ). Inv N cs k s) (sym (zero-mul (length cs))) (inv_none N cs s b.unstamped)
  passes_inv s b (suc n) =
      subst (λ (k : ℕ). Inv N cs k (pass_of cs (n * E + 1) before)) (sym (suc-mul n E))
      (subst (λ (q : ℕ). Inv N cs (n * E + E) (pass_of cs q before)) (sym (add-one (n * E)))
      (rest_inv n 0 (n * E) cs before (sym (add-zero (n * E))) refl
      (room_kept N s before (passes_size cs n s) b.room)
      (passes_inv s b n)))
    where
      E : ℕ
      E = length cs

      before : State
      before = passes_of cs n s
