-- How late a vertex may stand after vertex 0, over all solutions of difference constraints: as late as its bound, or as late as one
-- likes where it has none.
use Rattle.std.specs.Prelude.{◌≡◌, refl, cond, List, ℕ, ◌+◌, ◌*◌, ◌-◌, ◌≤◌, ◌<◌, ltb}
use Rattle.std.proofs.Common.{mul-le-mul_right, arith, lt-ltb, le-ltb}
use Rattle.std.proofs.Math.Decide.{dec_le, dec_lt}
use Rattle.basics.specs.Places.{at}
use Rattle.paths.specs.Constraint.{Constraint, Holds, All, Fits}
use Rattle.lowering.specs.Lowered.{none}
use Rattle.lowering.specs.Bounded.{unit}
use Rattle.lowering.specs.Outcome.{Under, Settled}
use Rattle.lowering.specs.Gap.{Gap, gap, moved, moved_above, moved_below, Weights, lowered_solves}

-- ---- what is stated
-- In every solution v stands `last` after vertex 0 or earlier, and in one of them just then.
pub record Last (cs : List Constraint) (v last : ℕ) : Type 0 where
  pub reached : (y : ℕ → ℕ) × All cs y × (y v ≡ y 0 + last)
  pub bound : (y : ℕ → ℕ) → All cs y → y v ≤ y 0 + last

-- However late is asked for, in some solution it stands as late as that.
abbrev pub NoLast : List Constraint → ℕ → Type 0
NoLast cs v = (T : ℕ) → (y : ℕ → ℕ) × All cs y × (y 0 + T ≤ y v)

-- farther than 1,031 vertices reach, when no gain and no loss is above the unit
abbrev pub reach : ℕ
reach = 1031 * unit

-- ---- what is found
-- The bounds l on vertices below N: vertex 0 is at 0, the constraints hold that have a bound at their vertex, and no solution is above
-- a bound.
pub record Tops (N : ℕ) (cs : List Constraint) (l : List ℕ) : Type 0 where
  pub start : at l 0 ≡ 0
  pub near : (v : ℕ) → v < N → at l v < none → at l v ≤ reach
  pub settled : Settled cs l
  pub greatest : (y : ℕ → ℕ) → All cs y → Under N l (y 0) y

-- e is any solution.
module _ (N : ℕ) (cs : List Constraint) (fits : Fits N cs) (weights : Weights unit cs) (l : List ℕ) (t : Tops N cs l) (e : ℕ → ℕ)
    (all : All cs e) where
  -- the bounds, and T after e where there is none
  abbrev up : ℕ → ℕ → ℕ
  up T v = cond (ltb (at l v) none) (at l v) (e v + T)

  up_bound : (T v : ℕ) → at l v < none → up T v ≡ at l v
  up_bound T v h = rw (lt-ltb (at l v) none h) refl

  up_none : (T v : ℕ) → none ≤ at l v → up T v ≡ e v + T
  up_none T v h = rw (le-ltb (at l v) none h) refl

  -- No constraint leads from a bound to where there is none, and those the other way ask little.
  up_solves : (T : ℕ) → reach + unit ≤ T → All cs (up T)
  up_solves T h c m = go (dec_lt (at l c.from) none) (dec_lt (at l c.to) none)
    where
      from : c.from < N
      from = fits.from c m

      to : c.to < N
      to = fits.to c m

      go : Dec (at l c.from < none) → Dec (at l c.to < none) → Holds c (up T)
      go (yes p) (yes q) = omega (arith, up_bound T c.from p, up_bound T c.to q, t.settled c m p)
      go (yes p) (no q) = absurd (omega (arith, t.settled c m p, t.near c.from from p, weights.loss c m))
      go (no p) (yes q) =
          omega (arith, up_none T c.from (omega arith), up_bound T c.to q, t.near c.to to q, weights.gain c m)
      go (no p) (no q) =
          omega (arith, up_none T c.from (omega arith), up_none T c.to (omega arith), all c m)

  -- Where every vertex has a bound, all bounds together are a solution.
  pub tops_solve : ((v : ℕ) → v < N → at l v < none) → All cs (at l)
  tops_solve h c m = t.settled c m (h c.from (fits.from c m))

  -- A bound is the last moment,
  pub last_found : (v : ℕ) → v < N → at l v < none → Last cs v (at l v)
  last_found v w h =
      record {
        reached = (
          up (reach + unit),
          up_solves (reach + unit) (omega arith),
          omega (arith, up_bound (reach + unit) v h, up_bound (reach + unit) 0 (omega (arith, t.start)), t.start),
        );
        bound = λ y s. omega (arith, t.greatest y s v w h);
      }

  -- and where there is none, there is no last moment.
  pub none_found : (v : ℕ) → none ≤ at l v → NoLast cs v
  none_found v h T = (
    up (reach + unit + T),
    up_solves (reach + unit + T) (omega arith),
    omega (arith, up_none (reach + unit + T) v h, up_bound (reach + unit + T) 0 (omega (arith, t.start)), t.start),
  )

-- ---- a first moment is not far: otherwise what lies above an empty band could be lowered
pub first_near : (N : ℕ) (cs : List Constraint) → N ≤ 1031 → Fits N cs → Weights unit cs → (x : ℕ → ℕ) → All cs x → (v : ℕ)
    → ((y : ℕ → ℕ) → All cs y → y 0 + x v ≤ y v + x 0) → x v ≤ x 0 + reach
first_near N cs few fits weights x all v early = go (dec_le (x v) (x 0 + reach))
  where
    none_such : (i : ℕ) × (i ≤ N) × Gap N unit x (x 0 + i * unit) → x 0 + reach < x v → ⊥
    none_such g h =
        let low : x 0 ≤ x 0 + g.0 * unit = omega arith in
        let high : x 0 + g.0 * unit < x v = omega (arith, mul-le-mul_right unit g.1, mul-le-mul_right unit few) in
        omega (
          arith,
          moved_below (x 0 + g.0 * unit) (λ z. z - 1) x 0 low,
          moved_above (x 0 + g.0 * unit) (λ z. z - 1) x v high,
          early (moved (x 0 + g.0 * unit) (λ z. z - 1) x)
              (lowered_solves N unit cs fits weights x all (x 0 + g.0 * unit) g.2),
        )

    go : Dec (x v ≤ x 0 + reach) → x v ≤ x 0 + reach
    go (yes h) = h
    go (no h) = absurd (none_such (gap N unit (x 0) x) (omega arith))
