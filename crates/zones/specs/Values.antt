-- What two values that keep a bound are known to keep besides: laws of `Sat`.
use Rattle.std.specs.Prelude.{◌≡◌, ◌↔◌, ℕ, ◌+◌, ◌*◌, ◌≤◌, ◌<◌}
use Rattle.std.proofs.Common.{ap, ⊎_elim, mul-le-mul_left, mul-le-mul_right, arith}
use Rattle.std.proofs.Math.Decide.{dec_le}
use Rattle.zones.specs.Bound.{Bound, none, some, half, strict, at_most_lem, less_than, weak_zero, Below, Holds, Sat}
use Rattle.zones.specs.Bound.{◌⊑◌, ◌⊕◌, least, least_is, half_sum, strict_sum}

-- The two kinds of bound, in plain numbers.
pub sat_at_most : (P up down u v : ℕ) → Sat P (at_most_lem up down) u v ↔ (v + down * P ≤ u + up * P)
sat_at_most P up down u v = (λ s. omega (arith, s.holds, e), λ h. record { holds = omega (arith, e) })
  where
    e : half (2 * up + 1) * P ≡ up * P
    e = ap (λ t. t * P) (omega arith)

pub sat_less_than : (P up down u v : ℕ) → Sat P (less_than up down) u v ↔ (v + down * P < u + up * P)
sat_less_than P up down u v = (λ s. omega (arith, s.holds, e), λ h. record { holds = omega (arith, e) })
  where
    e : half (2 * up) * P ≡ up * P
    e = ap (λ t. t * P) (omega arith)

-- Two bounds on a way in two parts make their sum.
pub sat_sum : (P u m v : ℕ) (a b : Bound) → Sat P a u m → Sat P b m v → Sat P (a ⊕ b) u v
sat_sum P u m v none b p q = record { holds = tt }
sat_sum P u m v (some e z) none p q = record { holds = tt }
sat_sum P u m v (some e z) (some f y) p q = omega (arith, ap (λ t. t * P) (half_sum e f), strict_sum e f)

-- What keeps a bound keeps every larger one.
pub sat_mono : (P u v : ℕ) {a b : Bound} → 0 < P → a ⊑ b → Sat P a u v → Sat P b u v
sat_mono P u v {a} {b} l p q = record { holds = go a b p.le q.holds }
  where
    same : (e f y z : ℕ) → ¬ (half e + y + 1 ≤ half f + z) → e + 2 * y ≤ f + 2 * z → half e + y ≡ half f + z
    same e f y z h p = omega arith

    num : (e f y z : ℕ) → e + 2 * y ≤ f + 2 * z → v + z * P + strict e ≤ u + half e * P
        → Dec (half e + y + 1 ≤ half f + z) → v + y * P + strict f ≤ u + half f * P
    num e f y z p q (yes h) = omega (arith, mul-le-mul_right P h)
    num e f y z p q (no h) = omega (arith, ap (λ t. t * P) (same e f y z h p))

    go : (a b : Bound) → Below a b → Holds P a u v → Holds P b u v
    go a none p q = tt
    go none (some f y) p q = absurd p
    go (some e z) (some f y) p q = num e f y z p q (dec_le (half e + y + 1) (half f + z))

-- What keeps two bounds keeps the tighter one.
pub sat_least : (P u v : ℕ) (a b : Bound) → 0 < P → Sat P a u v → Sat P b u v → Sat P (least a b) u v
sat_least P u v a b l p q = ⊎_elim (λ h. sat_mono P u v l h p) (λ h. sat_mono P u v l h q) (least_is a b).2

-- A value keeps every bound to itself that is not below zero,
pub sat_self : (P u : ℕ) (a : Bound) → 0 < P → weak_zero ⊑ a → Sat P a u u
sat_self P u a l h = sat_mono P u u l h (omega arith)

-- and no other.
pub self_sat : (P u : ℕ) (a : Bound) → 0 < P → Sat P a u u → weak_zero ⊑ a
self_sat P u none l s = record { le = tt }
self_sat P u (some e z) l s = go (dec_le (half e + 1) z) (dec_le (z + 1) (half e))
  where
    less : (half e + 1) * P ≤ z * P → ⊥
    less k = omega arith

    go : Dec (half e + 1 ≤ z) → Dec (z + 1 ≤ half e) → weak_zero ⊑ some e z
    go (yes h) d = absurd (less (mul-le-mul_right P h))
    go (no h) (yes k) = omega arith
    go (no h) (no k) = let q : half e ≡ z = omega arith in omega (arith, ap (λ t. t * P) q)

-- Scaled by c and shifted by h, values keep the same bounds,
pub sat_scale : (c h P u v : ℕ) (a : Bound) → 0 < c → Sat P a u v → Sat (c * P) a (c * u + h) (c * v + h)
sat_scale c h P u v none p s = record { holds = tt }
sat_scale c h P u v (some e z) p s = record { holds = num (strict e) (half e) (omega arith) s.holds }
  where
    num : (k l : ℕ) → k ≤ 1 → v + z * P + k ≤ u + l * P → c * v + h + z * (c * P) + k ≤ c * u + h + l * (c * P)
    num k l b s = omega (arith, mul-le-mul_left c s, mul-le-mul_right k p)

-- and no others.
pub sat_unscale : (c h P u v : ℕ) (a : Bound) → 0 < c → Sat (c * P) a (c * u + h) (c * v + h) → Sat P a u v
sat_unscale c h P u v none p s = record { holds = tt }
sat_unscale c h P u v (some e z) p s = go (dec_le (v + z * P + strict e) (u + half e * P))
  where
    num : (k l : ℕ) → k ≤ 1 → u + l * P + 1 ≤ v + z * P + k → c * v + h + z * (c * P) + k ≤ c * u + h + l * (c * P)
        → Dec (0 < k) → ⊥
    num k l b n s (yes q) = let m : u + l * P ≤ v + z * P = omega arith in omega (arith, mul-le-mul_left c m)
    num k l b n s (no q) = let m : u + l * P + 1 ≤ v + z * P = omega arith in omega (arith, mul-le-mul_left c m)

    go : Dec (v + z * P + strict e ≤ u + half e * P) → Sat P (some e z) u v
    go (yes k) = record { holds = k }
    go (no k) = absurd (num (strict e) (half e) (omega arith) (omega arith) s.holds (dec_le 1 (strict e)))
