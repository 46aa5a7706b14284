-- The entries of an effect are none, or within 4001 ticks for each step and for each of the seven vertices before; those among these are
-- within seven times 4001 ticks, however many steps there are.
use Rattle.std.specs.Prelude.{◌≡◌, refl, List, length}
use Rattle.std.proofs.Common.{inl, inr, mul-pos, mul-le-mul_right}
use Prim.Native.Nat.{ℕ, zero, suc, ◌+◌, ◌*◌, ◌≤◌, ◌<◌}
use native.Mathlib.Omega.{arith, by_contra}
use Rattle.std.proofs.Math.Decide.{dec_le}
use Rattle.std.proofs.Math.Nat.{mul-le-mul_left}
use Rattle.table.specs.Step.{Step, Fairs}
use Rattle.runs.specs.Steps.{Steps, steps_affine, steps_old}
use Rattle.zones.specs.Bound.{Bound, none, some, half, ◌⊑◌, at_most_lem, Sat}
use Rattle.zones.specs.Values.{sat_at_most}
use Rattle.zones.specs.Matrix.{Matrix, Solution}
use Rattle.zones.specs.Weight.{Spans, Within}
use Rattle.zones.specs.Extend.{solve}
use Rattle.effects.specs.Describes.{past, Scaled, Describes, tightest}
use Rattle.effects.specs.Slide.{StepsIn, AllIn, Clear, beyond, Level, level, gap, slide, slide_low, slide_high, slid}

-- The range of the entries among the vertices of the configuration before.
abbrev pub left_range : ℕ
left_range = 28007

module _ (σ : List Step) (fair : Fairs σ) (some-step : 0 < length σ) where
  -- ---- Two values far apart have a gap between them

  -- Where the values at a and b are more than n gaps apart, there is one between them.
  Finds : ℕ → ℕ → ℕ → Type 0
  Finds n a b = (P : ℕ) (x : ℕ → ℕ) → 0 < P → Steps P σ x (past x) → x a + n * (4001 * P + 1) < x b
      → (t : ℕ) × (x a ≤ t) × (t < x b) × StepsIn P (Clear (4001 * P + 1) t) σ x (past x) × AllIn (Clear (4001 * P + 1) t) x

  -- One gap can be filled by each step, and one by each vertex before;
  find : (a b : ℕ) → Finds (7 + length σ) a b
  unfolding Finds
  find a b P x p r h =
      let g = gap P (4001 * P + 1) (x a) σ x (past x) (steps_old P σ some-step r) r in
      (g.0.at, g.0.low, omega (arith, g.0.high), g.1, g.0.clear)

  -- before the start, by these alone.
  find_left : (a b : ℕ) → b < 7 → Finds 7 a b
  unfolding Finds
  find_left a b l P x p r h = go (level (4001 * P + 1) (x a) x)
    where
      go : Level (4001 * P + 1) 7 (x a) x
          → (t : ℕ) × (x a ≤ t) × (t < x b) × StepsIn P (Clear (4001 * P + 1) t) σ x (past x) × AllIn (Clear (4001 * P + 1) t) x
      go g = pick (g.clear 0 (omega arith))
        where
          before : g.at < x b
          before = omega (arith, g.high)

          pick : Clear (4001 * P + 1) g.at (x 0)
              → (t : ℕ) × (x a ≤ t) × (t < x b) × StepsIn P (Clear (4001 * P + 1) t) σ x (past x) × AllIn (Clear (4001 * P + 1) t) x
          pick (inl m) = absurd (omega (arith, before, steps_old P σ some-step r b l))
          pick (inr m) = (g.at, g.low, before, beyond P (4001 * P + 1) g.at σ m r, g.clear)

  -- A run in which the values at a and b are at most n gaps and k parts apart.
  abbrev Near : (P n a b k : ℕ) → Type 0
  Near P n a b k = (x : ℕ → ℕ) × Steps P σ x (past x) × (x b ≤ x a + n * (4001 * P + 1) + k)

  -- The gaps between them can be made shorter, by one part after another.
  shrink : (P n a b : ℕ) → 0 < P → Finds n a b → (k : ℕ) → Near P n a b k → Near P n a b 0
  unfolding Finds
  shrink P n a b p f zero m = m
  shrink P n a b p f (suc k) (x, r, h) = shrink P n a b p f k (go (dec_le (x b) (x a + n * (4001 * P + 1) + k)))
    where
      go : Dec (x b ≤ x a + n * (4001 * P + 1) + k) → Near P n a b k
      go (yes l) = (x, r, l)
      go (no l) =
          let (t, low, high, clear, all) = f P x p r (omega arith) in (
            (λ c. slide t 0 (x c)),
            slid P t 0 σ p fair all clear,
            omega (arith, slide_low t 0 (x a) low, slide_high t 0 (x b) high),
          )

  module _ (M : Matrix) (d : Describes σ M) (n a b : ℕ) (ha : a < 14) (hb : b < 14) (e z : ℕ) (is : M a b ≡ some e z)
    where
      -- ---- A run with its gaps cut down keeps the entry, so it is not far below zero

      low : Finds n b a → z ≤ half e + 4001 * n
      low f = by_contra z (half e + 4001 * n) (λ l.
          num R (y.0 a) (y.0 b) (half e) many (omega (arith, meets.holds)) (omega (arith, y.2)) (omega arith))
        where
          s : Solution 14 M
          s = solve 14 M d.closed

          t : Scaled σ s.0 s.2.0
          t = d.exact s.0 s.2.0 s.1 s.2.1

          Q : ℕ
          Q = t.scale * s.0

          R : ℕ
          R = suc n * Q

          many : n < R
          many = omega (arith, mul-le-mul_left (suc n) (mul-pos t.scale_pos s.1))

          x : ℕ → ℕ
          x c = suc n * (t.scale * s.2.0 c + t.shift) + 0

          y : Near R n b a 0
          y =
              shrink R n b a (omega (arith, many)) f (x a)
              (x, steps_affine Q (suc n) 0 (omega arith) t.run, omega arith)

          meets : Sat R (some e z) (y.0 a) (y.0 b)
          meets = rw is at (d.sound R y.0 (omega (arith, many)) y.1 a b ha hb)

          num : (R u v h : ℕ) → n < R → v + z * R ≤ u + h * R → u ≤ v + n * (4001 * R + 1) → h + 4001 * n < z → ⊥
          num R u v h m p q l = omega (arith, mul-le-mul_right R l)

      -- ---- A run with a gap stretched would break it, so no run has one, and it is not far above zero

      near : Finds n a b → (P : ℕ) (x : ℕ → ℕ) → 0 < P → Steps P σ x (past x) → x b ≤ x a + 4001 * n * P
      unfolding Finds
      near f P x p r = by_contra (x b) (x a + 4001 * n * P) (λ k.
          let t = f R y pos (steps_affine P (suc n) 0 (omega arith) r) (omega (arith, mul-le-mul_left (suc n) k)) in
          broken t.0 t.1 t.2 t.3 t.4)
        where
          R : ℕ
          R = suc n * P

          pos : 0 < R
          pos = mul-pos (omega arith) p

          y : ℕ → ℕ
          y c = suc n * x c + 0

          T : ℕ
          T = y a + half e * R + 1

          broken : (t : ℕ) → y a ≤ t → t < y b → StepsIn R (Clear (4001 * R + 1) t) σ y (past y) → AllIn (Clear (4001 * R + 1) t) y → ⊥
          broken t l h c o = omega (arith, meets.holds, slide_low t T (y a) l, slide_high t T (y b) h)
            where
              meets : Sat R (some e z) (slide t T (y a)) (slide t T (y b))
              meets = rw is at (d.sound R (λ c. slide t T (y c)) pos (slid R t T σ pos fair o c) a b ha hb)

      high : Finds n a b → half e ≤ z + 4001 * n
      high f = omega (arith, below.le)
        where
          meets : (P : ℕ) (x : ℕ → ℕ) → 0 < P → Steps P σ x (past x) → Sat P (at_most_lem (4001 * n) 0) (x a) (x b)
          meets P x p r = (sat_at_most P (4001 * n) 0 (x a) (x b)).1 (omega (arith, near f P x p r))

          below : some e z ⊑ at_most_lem (4001 * n) 0
          below = rw is at (tightest d a b ha hb (at_most_lem (4001 * n) 0) meets)

  within : (M : Matrix) → Describes σ M → (n a b : ℕ) → a < 14 → b < 14 → Finds n a b → Finds n b a
      → Within (4001 * n) (M a b)
  within M d n a b ha hb f g = record { spans = go (M a b) refl }
    where
      go : (m : Bound) → M a b ≡ m → Spans (4001 * n) m
      go none is = tt
      go (some e z) is = (low M d n a b ha hb e z is g, high M d n a b ha hb e z is f)

  -- Every entry is within 4001 ticks for each step and for each vertex before,
  pub range : (M : Matrix) → Describes σ M → (a b : ℕ) → a < 14 → b < 14 → Within (4001 * (7 + length σ)) (M a b)
  range M d a b ha hb = within M d (7 + length σ) a b ha hb (find a b) (find b a)

  -- and those of the left part within their range.
  pub range_left : (M : Matrix) → Describes σ M → (a b : ℕ) → a < 7 → b < 7 → Within left_range (M a b)
  range_left M d a b ha hb = within M d 7 a b (omega arith) (omega arith) (find_left a b hb) (find_left b a ha)
