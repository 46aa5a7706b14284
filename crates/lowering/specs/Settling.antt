-- Checks that settle: constraints from one vertex hold after a check of each, and later checks that do not lower that vertex keep them.
use Rattle.std.specs.Prelude.{◌≡◌, Bool, true, false, ◌⊎◌, ◌≢◌, ℕ, ◌≤◌, ◌<◌}
use Rattle.std.proofs.Math.Path.{refl}
use Rattle.std.proofs.Common.{sym, ap, subst, ◌∙◌, inl, inr, arith}
use mathlib.Core.List.Memᴰ
use mathlib.Core.List.{List, [], ◌∷◌, Memᴰ}
use Rattle.basics.specs.Places.{at}
use Rattle.paths.specs.Constraint.{Constraint, Holds}
use Rattle.lowering.specs.Lowered.{Bounds, none, high_of, lower_of, lowers_of, lower_hit, lower_miss}
use Rattle.lowering.specs.Bounded.{Lowerable, Bounded, lowerable, high_broken, high_holds, lowered_to, lowered_other, bounded_lower}
use Rattle.lowering.specs.Outcome.{Settled, lowers_outcome}

-- constraints that hold stay so while their vertices keep their bounds and other bounds fall
pub settled_kept : (cs : List Constraint) (l l' : List ℕ) → Settled cs l → ((v : ℕ) → at l' v ≤ at l v)
    → ((c : Constraint) → Memᴰ c cs → at l' c.from ≡ at l c.from) → Settled cs l'
settled_kept cs l l' h falls same c m b = omega (arith, same c m, falls c.to, h c m (omega (arith, same c m)))

module _ (N : ℕ) (cs : List Constraint) where
  module _ (c : Constraint) (s : Bounds) (m : Memᴰ c cs) (b : Bounded N cs s.late) where
    abbrev able : Lowerable c s.late
    able = lowerable N cs s.late b c m

    lower_other : (v : ℕ) → v ≢ c.to → at (lower_of c s).late v ≡ at s.late v
    lower_other v n = go (high_of c s.late) refl
      where
        go : (h : Bool) → high_of c s.late ≡ h → at (lower_of c s).late v ≡ at s.late v
        go true p =
            ap (λ (t : Bounds). at t.late v) (lower_hit c s p)
            ∙ lowered_other c s.late able (high_broken c s.late p) v n
        go false p = ap (λ (t : Bounds). at t.late v) (lower_miss c s p)

    -- a check settles its constraint
    lower_settles : c.from ≢ c.to → at s.late c.from < none → Holds c (at (lower_of c s).late)
    lower_settles n w = go (high_of c s.late) refl
      where
        go : (h : Bool) → high_of c s.late ≡ h → Holds c (at (lower_of c s).late)
        go true p =
            let k = high_broken c s.late p in
            subst (λ (t : Bounds). Holds c (at t.late)) (sym (lower_hit c s p))
            (omega (arith, lowered_to c s.late able k, lowered_other c s.late able k c.from n))
        go false p = subst (λ (t : Bounds). Holds c (at t.late)) (sym (lower_miss c s p)) (high_holds c s.late p w)

  -- checks of ds, all of them among cs
  pub lowers_other : (ds : List Constraint) (s : Bounds) → ((c : Constraint) → Memᴰ c ds → Memᴰ c cs)
      → Bounded N cs s.late → (v : ℕ) → ((c : Constraint) → Memᴰ c ds → c.to ≢ v) → at (lowers_of ds s).late v ≡ at s.late v
  unfolding lowers_of
  lowers_other [] s among b v n = refl
  lowers_other (c ∷ ds) s among b v n =
      let m = among c (Memᴰ.head refl) in
      lowers_other ds (lower_of c s) (λ d k. among d (Memᴰ.tail k)) (bounded_lower N cs c s m b) v (λ d k. n d (Memᴰ.tail k))
      ∙ lower_other c s m b v (λ e. n c (Memᴰ.head refl) (sym e))

  lowers_falls : (ds : List Constraint) (s : Bounds) → ((c : Constraint) → Memᴰ c ds → Memᴰ c cs)
      → Bounded N cs s.late → (v : ℕ) → at (lowers_of ds s).late v ≤ at s.late v
  lowers_falls ds s among b = (lowers_outcome N cs ds s among b).falls

  -- Constraints from one vertex, none of which leads to it, hold after a check of each.
  pub star_settles : (f : ℕ) (ds : List Constraint) (s : Bounds) → ((c : Constraint) → Memᴰ c ds → Memᴰ c cs)
      → Bounded N cs s.late → ((c : Constraint) → Memᴰ c ds → (c.from ≡ f) × (c.to ≢ f)) → Settled ds (lowers_of ds s).late
  unfolding lowers_of
  star_settles f [] s among b star c m = absurd (Memᴰ.not-nil m)
  star_settles f (c ∷ ds) s among b star d m =
      go (star_settles f ds (lower_of c s) (λ d k. among d (Memᴰ.tail k)) next (λ d k. star d (Memᴰ.tail k)) d)
      (Memᴰ.cases_cons m)
    where
      own : Memᴰ c cs
      own = among c (Memᴰ.head refl)

      next : Bounded N cs (lower_of c s).late
      next = bounded_lower N cs c s own b

      apart : c.from ≢ c.to
      apart e = (star c (Memᴰ.head refl)).1 (sym e ∙ (star c (Memᴰ.head refl)).0)

      same : at (lowers_of ds (lower_of c s)).late c.from ≡ at (lower_of c s).late c.from
      same =
          lowers_other ds (lower_of c s) (λ d k. among d (Memᴰ.tail k)) next c.from
          (λ d k e. (star d (Memᴰ.tail k)).1 (e ∙ (star c (Memᴰ.head refl)).0))

      first : at (lowers_of ds (lower_of c s)).late c.from < none → Holds c (at (lowers_of ds (lower_of c s)).late)
      first w =
          omega (
            arith,
            same,
            lowers_falls ds (lower_of c s) (λ d k. among d (Memᴰ.tail k)) next c.to,
            lower_settles c s own b apart (omega (arith, same, lower_other c s own b c.from apart)),
          )

      go : (Memᴰ d ds → at (lowers_of ds (lower_of c s)).late d.from < none → Holds d (at (lowers_of ds (lower_of c s)).late))
          → (d ≡ c) ⊎ Memᴰ d ds
          → at (lowers_of ds (lower_of c s)).late d.from < none → Holds d (at (lowers_of ds (lower_of c s)).late)
      go h (inl e) = rw e first
      go h (inr k) = h k
