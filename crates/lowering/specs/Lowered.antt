-- Bounds from above on the times of vertices, as a list; one check of a constraint, and the checks of a list of constraints in turn.
use Rattle.std.specs.Prelude.{◌≡◌, refl, Bool, true, false, cond, ◌&&◌, List, [], ◌∷◌, ◌++◌, ℕ, ◌+◌, ◌-◌, ◌≤◌, ◌<◌, min, ltb, length, set}
use Rattle.std.proofs.Common.{◌∙◌, length-set, lt-ltb, le-ltb}
use Rattle.basics.specs.Places.{at}
use Rattle.paths.specs.Constraint.{Constraint}

-- For each vertex a time that it is not after; and a number that no vertex is below whose bound a check has lowered.
pub record Bounds : Type 0 where
  pub late : List ℕ
  pub low : ℕ

abbrev pub bounds : List ℕ → ℕ → Bounds
bounds l m = record { late = l; low = m }

-- what stands for no bound: 2^40
abbrev pub none : ℕ
none = 1099511627776

-- Whether there is a bound at the vertex of c that breaks c, so that a check lowers the bound of its end.
abbrev pub high_of : Constraint → List ℕ → Bool
high_of c l = ltb (at l c.from) none && ltb (at l c.from + c.loss) (at l c.to + c.gain)

-- One check of c: its end gets the greatest bound that satisfies c, if its bound is above.
unfoldable pub lower_of : Constraint → Bounds → Bounds
lower_of c s = cond (high_of c s.late) (bounds (set s.late c.to (at s.late c.from + c.loss - c.gain)) (min s.low c.to)) s

-- A check of each constraint in turn.
unfoldable pub lowers_of : List Constraint → Bounds → Bounds
lowers_of [] s = s
lowers_of (c ∷ cs) s = lowers_of cs (lower_of c s)

-- ---- one check: it lowers, or changes nothing
pub lower_hit : (c : Constraint) (s : Bounds) → high_of c s.late ≡ true
    → lower_of c s ≡ bounds (set s.late c.to (at s.late c.from + c.loss - c.gain)) (min s.low c.to)
unfolding lower_of
lower_hit c s p = rw p refl

pub lower_miss : (c : Constraint) (s : Bounds) → high_of c s.late ≡ false → lower_of c s ≡ s
unfolding lower_of
lower_miss c s p = rw p refl

-- the three outcomes of the test
module _ (c : Constraint) (s : Bounds) where
  pub lower_none : none ≤ at s.late c.from → lower_of c s ≡ s
  lower_none h = lower_miss c s (rw (le-ltb (at s.late c.from) none h) refl)

  pub lower_kept : at s.late c.from < none → at s.late c.to + c.gain ≤ at s.late c.from + c.loss → lower_of c s ≡ s
  lower_kept h k = lower_miss c s (rw (lt-ltb (at s.late c.from) none h, le-ltb _ _ k) refl)

  pub lower_less : at s.late c.from < none → at s.late c.from + c.loss < at s.late c.to + c.gain
      → lower_of c s ≡ bounds (set s.late c.to (at s.late c.from + c.loss - c.gain)) (min s.low c.to)
  lower_less h k = lower_hit c s (rw (lt-ltb (at s.late c.from) none h, lt-ltb _ _ k) refl)

-- ---- no constraint, one, and one list after the other
pub lowers_none : (s : Bounds) → lowers_of [] s ≡ s
unfolding lowers_of
lowers_none s = refl

pub lowers_one : (c : Constraint) (s : Bounds) → lowers_of (c ∷ []) s ≡ lower_of c s
unfolding lowers_of
lowers_one c s = refl

pub lowers_append : (xs ys : List Constraint) (s : Bounds) → lowers_of (xs ++ ys) s ≡ lowers_of ys (lowers_of xs s)
unfolding lowers_of
lowers_append [] ys s = refl
lowers_append (c ∷ xs) ys s = lowers_append xs ys (lower_of c s)

-- ---- the list is as long as before
pub lower_size : (c : Constraint) (s : Bounds) → length (lower_of c s).late ≡ length s.late
unfolding lower_of
lower_size c s = go (high_of c s.late)
  where
    go : (b : Bool)
        → length (cond b (bounds (set s.late c.to (at s.late c.from + c.loss - c.gain)) (min s.low c.to)) s).late
        ≡ length s.late
    go true = simp length-set
    go false = refl

pub lowers_size : (cs : List Constraint) (s : Bounds) → length (lowers_of cs s).late ≡ length s.late
unfolding lowers_of
lowers_size [] s = refl
lowers_size (c ∷ cs) s = lowers_size cs (lower_of c s) ∙ lower_size c s
