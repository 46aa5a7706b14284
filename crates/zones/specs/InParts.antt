-- The bounds of a matrix in whole parts, Q to a tick: a strict one is a part less. Its closure tells, of all solutions in these parts, how
-- late each vertex may lie at the latest after the first; all vertices may lie so late at once.
use Rattle.std.specs.Prelude.{◌≡◌, ◌⊎◌, ◌↔◌, ℕ, ◌+◌, ◌*◌, ◌-◌, ◌%◌, ◌≤◌, ◌<◌}
use Rattle.std.proofs.Math.Path.{refl}
use Rattle.std.proofs.Common.{inl, inr}
use native.Mathlib.Omega.{arith}
use Rattle.zones.specs.Bound.{Bound, none, some, half, strict, at_most_lem, weak_zero, ◌⊑◌, ◌⊕◌, Sat}
use Rattle.zones.specs.Values.{sat_at_most}
use Rattle.zones.specs.Matrix.{Matrix, Solves, Solution, Closed, Pivots, start, next}
use Rattle.zones.specs.Grid.{on_grid}

-- A bound in parts.
abbrev pub parts_of : ℕ → Bound → Bound
parts_of Q none = none
parts_of Q (some e z) = at_most_lem (half e * Q) (z * Q + strict e)

unfoldable pub in_parts : ℕ → Matrix → Matrix
in_parts Q M a b = parts_of Q (M a b)

-- Values in parts keep it where they keep the bound.
pub parts_sat : (Q u v : ℕ) (a : Bound) → Sat 1 (parts_of Q a) u v ↔ Sat Q a u v
parts_sat Q u v none = ((λ s. record { holds = tt }), λ s. record { holds = tt })
parts_sat Q u v (some e z) = (
  (λ s. record { holds = omega (arith, (sat_at_most 1 (half e * Q) (z * Q + strict e) u v).0 s) }),
  λ s. (sat_at_most 1 (half e * Q) (z * Q + strict e) u v).1 (omega (arith, s.holds)),
)

pub parts_solves : (N Q : ℕ) (M : Matrix) (x : ℕ → ℕ) → Solves N 1 (in_parts Q M) x ↔ Solves N Q M x
unfolding in_parts
parts_solves N Q M x = (
  (λ s a b ha hb. (parts_sat Q (x a) (x b) (M a b)).0 (s a b ha hb)),
  λ s a b ha hb. (parts_sat Q (x a) (x b) (M a b)).1 (s a b ha hb),
)

-- In as many parts as there are vertices it has a solution where M has one in any parts.
pub parts_solution : (N : ℕ) (M : Matrix) → Solution N M → Solution N (in_parts N M)
parts_solution N M (P, p, (x, s)) =
    let (y, t) = on_grid N P M x p s in (1, omega arith, (y, (parts_solves N N M y).1 t))

-- ---- Weak bounds stay weak

abbrev Odd : Bound → Type 0
Odd none = Unit {0}
Odd (some e z) = e % 2 ≡ 1

pub record Weak (a : Bound) : Type 0 where
  pub weak : Odd a

weak_sum : (a b : Bound) → Weak a → Weak b → Weak (a ⊕ b)
weak_sum none b p q = record { weak = tt }
weak_sum (some e z) none p q = record { weak = tt }
weak_sum (some e z) (some f y) p q = record { weak = omega (arith, p.weak, q.weak) }

pub weak_same : (a b : Bound) → a ⊑ b → b ⊑ a → Weak a → Weak b
weak_same none none p q w = w
weak_same none (some f y) p q w = absurd p.le
weak_same (some e z) none p q w = record { weak = tt }
weak_same (some e z) (some f y) p q w = record { weak = omega (arith, p.le, q.le, w.weak) }

abbrev pub AllWeak : ℕ → Matrix → Type 0
AllWeak N M = (a b : ℕ) → a < N → b < N → Weak (M a b)

pub parts_weak : (N Q : ℕ) (M : Matrix) → AllWeak N (in_parts Q M)
unfolding in_parts
parts_weak N Q M a b ha hb = go (M a b)
  where
    go : (e : Bound) → Weak (parts_of Q e)
    go none = record { weak = tt }
    go (some e z) = record { weak = omega arith }

pub pivots_weak : {N from : ℕ} {M : Matrix} {k : ℕ} {L : Matrix} → Pivots N from M k L → AllWeak N M → AllWeak N L
pivots_weak (start f) w a b ha hb = w a b ha hb
pivots_weak {N} {from} {L = L} (next {k = k} {K = K} r f h z v) w a b ha hb = go (v.kept a b ha hb) (pivots_weak r w)
  where
    go : (K a b ⊑ L a b) ⊎ (K a k ⊕ K k b ⊑ L a b) → AllWeak N K → Weak (L a b)
    go (inl e) t = weak_same (K a b) (L a b) e (v.low a b ha hb) (t a b ha hb)
    go (inr e) t =
        weak_same (K a k ⊕ K k b) (L a b) e (v.via a b ha hb) (weak_sum (K a k) (K k b) (t a k ha h) (t k b h hb))

-- ---- As late as can be

-- How far before the first vertex one lies at least, by a bound from the first that is not above zero.
abbrev pub back_of : Bound → ℕ
back_of none = 0
back_of (some e z) = z - half e

-- It lies no less far before it.
back_least : (u v : ℕ) (a : Bound) → v ≤ u → Sat 1 a u v → back_of a + v ≤ u
back_least u v none l s = omega arith
back_least u v (some e z) l s = omega (arith, s.holds)

module _ (N : ℕ) (C : Matrix) (closed : Closed N C) (weak : AllWeak N C) (some-vertex : 0 < N)
    (low : (a : ℕ) → a < N → C 0 a ⊑ weak_zero) where
  -- When the first vertex lies at S.
  pub latest : ℕ → ℕ → ℕ
  latest S a = S - back_of (C 0 a)

  pub latest_at : (S a : ℕ) → latest S a ≡ S - back_of (C 0 a)
  unfolding latest
  latest_at S a = refl

  -- The first vertex lies there.
  pub latest_first : (S : ℕ) → latest S 0 ≡ S
  unfolding latest
  latest_first S = go (C 0 0) (closed.diag 0 some-vertex)
    where
      go : (e : Bound) → weak_zero ⊑ e → S - back_of e ≡ S
      go none h = omega arith
      go (some e z) h = omega (arith, h.le)

  -- Two of them keep the bound between them.
  between : (S : ℕ) (e f g : Bound) → e ⊑ weak_zero → f ⊑ weak_zero → Weak e → Weak f → e ⊑ f ⊕ g
      → back_of e ≤ S → back_of f ≤ S → Sat 1 g (S - back_of f) (S - back_of e)
  between S none f g p q u v h k l = absurd p.le
  between S (some e z) none g p q u v h k l = absurd q.le
  between S (some e z) (some f y) none p q u v h k l = record { holds = tt }
  between S (some e z) (some f y) (some g x) p q u v h k l = record {
    holds = number (half e) (half f) (half g) (strict g) (omega (arith, p.le)) (omega (arith, q.le)) (omega arith)
        (omega (arith, h.le, u.weak, v.weak)) k l;
  }
    where
      number : (i j m s : ℕ) → i ≤ z → j ≤ y → s ≤ 1 → i + y + x + s ≤ j + m + z → z - i ≤ S → y - j ≤ S
          → S - (z - i) + x * 1 + s ≤ S - (y - j) + m * 1
      number i j m s a b c d k l = omega arith

  -- All solve C at once,
  pub latest_solves : (S : ℕ) → ((a : ℕ) → a < N → back_of (C 0 a) ≤ S) → Solves N 1 C (latest S)
  unfolding latest
  latest_solves S h a b ha hb =
      between S (C 0 b) (C 0 a) (C a b) (low b hb) (low a ha) (weak 0 b some-vertex hb) (weak 0 a some-vertex ha)
      (closed.tri 0 b a some-vertex hb ha) (h b hb) (h a ha)

-- and in no solution does a vertex lie less far before the first.
pub latest_least : (N : ℕ) (C : Matrix) (x : ℕ → ℕ) → Solves N 1 C x → (a : ℕ) → 0 < N → a < N → x a ≤ x 0
    → back_of (C 0 a) + x a ≤ x 0
latest_least N C x s a p h l = back_least (x 0) (x a) (C 0 a) l (s 0 a p h)
