-- Of N + 1 bands one above the other, N values leave one empty; what lies above an empty band of a solution may be moved.
use Rattle.std.specs.Prelude.{◌≡◌, ◌⊎◌, cond, ℕ, zero, suc, ◌+◌, ◌*◌, ◌-◌, ◌≤◌, ◌<◌, ltb}
use Rattle.std.proofs.Common.{ap, mul-le-mul_right, not-suc-le-zero, arith, lt-ltb, le-ltb}
use Rattle.std.proofs.Math.Logic.{inl, inr}
use mathlib.Core.List.{List, Memᴰ}
use Rattle.std.proofs.Math.Decide.{dec_lt, dec_le}
use Rattle.basics.specs.Pigeon.{Twice, pigeon}
use Rattle.paths.specs.Constraint.{Constraint, Holds, All, Fits}

-- ---- a search: one k below n with Q, or R for all of them
seek : (Q R : ℕ → Type 0) → ((k : ℕ) → Q k ⊎ R k) → (n : ℕ)
    → ((k : ℕ) × (k < n) × Q k) ⊎ ((k : ℕ) → k < n → R k)
seek Q R d zero = inr (λ k h. absurd (not-suc-le-zero h))
seek Q R d (suc n) = go (seek Q R d n) (d n)
  where
    go : ((k : ℕ) × (k < n) × Q k) ⊎ ((k : ℕ) → k < n → R k) → Q n ⊎ R n
        → ((k : ℕ) × (k < suc n) × Q k) ⊎ ((k : ℕ) → k < suc n → R k)
    go (inl f) e = inl (f.0, omega (arith, f.1), f.2)
    go (inr f) (inl q) = inl (n, omega arith, q)
    go (inr f) (inr r) = inr (λ k h. more k (dec_lt k n) h)
      where
        more : (k : ℕ) → Dec (k < n) → k < suc n → R k
        more k (yes l) h = f k l
        more k (no l) h = let e : k ≡ n = omega arith in rw e r

-- z is above the level, and not more than one unit.
pub record InBand (unit level z : ℕ) : Type 0 where
  pub above : level < z
  pub upto : z ≤ level + unit

-- No vertex below N has a value in the band above the level.
abbrev pub Gap : ℕ → ℕ → (ℕ → ℕ) → ℕ → Type 0
Gap N unit x level = (v : ℕ) → v < N → ¬ InBand unit level (x v)

-- Of the N + 1 bands above b one is empty.
module _ (N unit b : ℕ) (x : ℕ → ℕ) where
  abbrev level : ℕ → ℕ
  level i = b + i * unit

  -- a vertex in band i, or none
  one : (i : ℕ) → ((v : ℕ) × (v < N) × InBand unit (level i) (x v)) ⊎ Gap N unit x (level i)
  one i =
      seek (λ v. InBand unit (level i) (x v)) (λ v. ¬ InBand unit (level i) (x v))
      (λ v. go v (dec_lt (level i) (x v)) (dec_le (x v) (level i + unit))) N
    where
      go : (v : ℕ) → Dec (level i < x v) → Dec (x v ≤ level i + unit)
          → InBand unit (level i) (x v) ⊎ (¬ InBand unit (level i) (x v))
      go v (yes p) (yes q) = inl (record { above = p; upto = q })
      go v (no p) q = inr (λ h. p h.above)
      go v (yes p) (no q) = inr (λ h. q h.upto)

  -- what is found in a band: a vertex, or that it is empty
  abbrev Look : ℕ → Type 0
  Look i = ((v : ℕ) × (v < N) × InBand unit (level i) (x v)) ⊎ Gap N unit x (level i)

  pick : (i : ℕ) → Look i → ℕ
  pick i (inl f) = f.0
  pick i (inr g) = 0

  abbrev spot : ℕ → ℕ
  spot i = pick i (one i)

  abbrev Found : ℕ → ℕ → Type 0
  Found i v = (v < N) × InBand unit (level i) (x v)

  pub gap : (i : ℕ) × (i ≤ N) × Gap N unit x (level i)
  unfolding pick
  gap = go (seek (λ i. Gap N unit x (level i)) (λ i. Found i (spot i)) (λ i. turn i (one i)) (suc N))
    where
      turn : (i : ℕ) (o : Look i) → Gap N unit x (level i) ⊎ Found i (pick i o)
      turn i (inl f) = inr (f.1, f.2)
      turn i (inr g) = inl g

      go : ((i : ℕ) × (i < suc N) × Gap N unit x (level i)) ⊎ ((i : ℕ) → i < suc N → Found i (spot i))
          → (i : ℕ) × (i ≤ N) × Gap N unit x (level i)
      go (inl g) = (g.0, omega (arith, g.1), g.2)
      go (inr f) = absurd (none (pigeon N spot (λ i l. (f i (omega arith)).0)))
        where
          none : Twice spot N → ⊥
          none t =
              omega (
                arith,
                (f t.i (omega (arith, t.less, t.last))).1.upto,
                (f t.j (omega (arith, t.last))).1.above,
                ap x t.same,
                mul-le-mul_right unit t.less,
              )

-- ---- what lies above an empty band
-- x with what is above the level moved by f
abbrev pub moved : ℕ → (ℕ → ℕ) → (ℕ → ℕ) → ℕ → ℕ
moved level f x v = cond (ltb level (x v)) (f (x v)) (x v)

pub moved_above : (level : ℕ) (f x : ℕ → ℕ) (v : ℕ) → level < x v → moved level f x v ≡ f (x v)
moved_above level f x v h = rw (lt-ltb level (x v) h)

pub moved_below : (level : ℕ) (f x : ℕ → ℕ) (v : ℕ) → x v ≤ level → moved level f x v ≡ x v
moved_below level f x v h = rw (le-ltb level (x v) h)

-- No gain and no loss is above the unit.
pub record Weights (unit : ℕ) (cs : List Constraint) : Type 0 where
  pub gain : (c : Constraint) → Memᴰ c cs → c.gain ≤ unit
  pub loss : (c : Constraint) → Memᴰ c cs → c.loss ≤ unit

module _ (N unit : ℕ) (cs : List Constraint) (fits : Fits N cs) (weights : Weights unit cs) (x : ℕ → ℕ) (all : All cs x)
    (level : ℕ) (empty : Gap N unit x level) where
  -- the value of v, before and after it is moved by f
  abbrev Moved : (ℕ → ℕ) → ℕ → Type 0
  Moved f v =
      ((x v ≤ level) × (moved level f x v ≡ x v)) ⊎ ((level + unit < x v) × (moved level f x v ≡ f (x v)))

  cases : (f : ℕ → ℕ) (v : ℕ) → v < N → Moved f v
  cases f v w = go (dec_lt level (x v)) (dec_le (x v) (level + unit))
    where
      go : Dec (level < x v) → Dec (x v ≤ level + unit) → Moved f v
      go (no p) q = let h : x v ≤ level = omega arith in inl (h, moved_below level f x v h)
      go (yes p) (yes q) = absurd (empty v w (record { above = p; upto = q }))
      go (yes p) (no q) = inr (omega arith, moved_above level f x v p)

  -- It may be raised by the same amount,
  pub raised_solves : (T : ℕ) → All cs (moved level (λ z. z + T) x)
  raised_solves T c m =
      go (cases (λ z. z + T) c.from (fits.from c m)) (cases (λ z. z + T) c.to (fits.to c m))
    where
      go : Moved (λ z. z + T) c.from → Moved (λ z. z + T) c.to → Holds c (moved level (λ z. z + T) x)
      go (inl p) (inl q) = omega (arith, all c m, p.1, q.1)
      go (inr p) (inl q) = omega (arith, all c m, p.1, q.1)
      go (inr p) (inr q) = omega (arith, all c m, p.1, q.1)
      go (inl p) (inr q) = omega (arith, all c m, weights.loss c m, p.0, q.0)

  -- and lowered by one.
  pub lowered_solves : All cs (moved level (λ z. z - 1) x)
  lowered_solves c m =
      go (cases (λ z. z - 1) c.from (fits.from c m)) (cases (λ z. z - 1) c.to (fits.to c m))
    where
      go : Moved (λ z. z - 1) c.from → Moved (λ z. z - 1) c.to → Holds c (moved level (λ z. z - 1) x)
      go (inl p) (inl q) = omega (arith, all c m, p.1, q.1)
      go (inl p) (inr q) = omega (arith, all c m, p.1, q.1)
      go (inr p) (inr q) = omega (arith, all c m, p.0, q.0, p.1, q.1)
      go (inr p) (inl q) = omega (arith, weights.gain c m, p.0, q.0, p.1, q.1)
