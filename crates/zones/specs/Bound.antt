-- Bounds on a difference of two values: their order, their sum, and what it means that two values keep one.
use Rattle.std.specs.Prelude.{◌≡◌, refl, ◌⊎◌, ℕ, ◌+◌, ◌*◌, ◌-◌, ◌/◌, ◌%◌, ◌≤◌, min, max}
use Rattle.std.proofs.Common.{ap₂, inl, inr, ⊎_elim, arith}
use Rattle.std.proofs.Math.Decide.{dec_le}

infixl 50 ◌⊑◌
infixl 60 ◌⊕◌
-- A bound on a difference in ticks (a demand's bound): none, or `some e z`, which says
-- at most e / 2 - z ticks where e is odd, and less than that where e is even. z is the bias of the code e.
pub data Bound : Type 0 where
  none : Bound
  some : ℕ → ℕ → Bound

-- The ticks of a code, still biased.
abbrev pub half : ℕ → ℕ
half e = e / 2

-- 1 where a code is strict, 0 where it is weak.
abbrev pub strict : ℕ → ℕ
strict e = 1 - e % 2

-- At most, and less than, up - down ticks.
abbrev pub at_most_lem : ℕ → ℕ → Bound
at_most_lem up down = some (2 * up + 1) down

abbrev pub less_than : ℕ → ℕ → Bound
less_than up down = some (2 * up) down

-- At most 0.
abbrev pub weak_zero : Bound
weak_zero = some 1 0

abbrev pub Below : Bound → Bound → Type 0
Below a none = Unit {0}
Below none (some f y) = ⊥
Below (some e z) (some f y) = e + 2 * y ≤ f + 2 * z

-- a is at least as tight as b: fewer ticks, or as many and strict or both weak. None is the largest.
pub record ◌⊑◌ (a b : Bound) : Type 0 where
  pub le : Below a b

-- The code of a sum: the ticks add up, and it is weak only where both are.
abbrev pub sum : ℕ → ℕ → ℕ
sum e f = e + f - max (e % 2) (f % 2)

-- The sum of two bounds: what they say together of a way in two parts.
abbrev pub ◌⊕◌ : Bound → Bound → Bound
none ⊕ f = none
some e z ⊕ none = none
some e z ⊕ some f y = some (sum e f) (z + y)

abbrev pub Holds : ℕ → Bound → ℕ → ℕ → Type 0
Holds P none u v = Unit {0}
Holds P (some e z) u v = v + z * P + strict e ≤ u + half e * P

-- v - u keeps the bound a, where time is counted in whole parts, P to a tick.
pub record Sat (P : ℕ) (a : Bound) (u v : ℕ) : Type 0 where
  pub holds : Holds P a u v

-- ---- Codes

-- The ticks of a sum of codes, its strictness, and both in one number.
pub half_sum : (e f : ℕ) → half (sum e f) ≡ half e + half f
half_sum e f = omega arith

pub strict_sum : (e f : ℕ) → strict (sum e f) ≡ max (strict e) (strict f)
strict_sum e f = omega arith

pub sum_split : (e f : ℕ) → sum e f ≡ 2 * (half e + half f) + min (e % 2) (f % 2)
sum_split e f = omega arith

parity_sum : (e f : ℕ) → sum e f % 2 ≡ min (e % 2) (f % 2)
parity_sum e f = omega arith

sum_mono : (e f g y z : ℕ) → e + 2 * y ≤ f + 2 * z → sum e g + 2 * y ≤ sum f g + 2 * z
sum_mono e f g y z h =
    rw (sum_split e g, sum_split f g)
    (parts (half e) (half f) (half g) (e % 2) (f % 2) (g % 2) (omega arith) (omega arith) (omega arith) (omega arith))
  where
    parts : (a b c p q r : ℕ) → p ≤ 1 → q ≤ 1 → r ≤ 1 → 2 * a + p + 2 * y ≤ 2 * b + q + 2 * z
        → 2 * (a + c) + min p r + 2 * y ≤ 2 * (b + c) + min q r + 2 * z
    parts a b c p q r hp hq hr h = omega arith

sum_comm : (e f : ℕ) → sum e f ≡ sum f e
sum_comm e f = omega arith

sum_assoc : (e f g : ℕ) → sum (sum e f) g ≡ sum e (sum f g)
sum_assoc e f g =
    rw (sum_split (sum e f) g, sum_split e (sum f g), half_sum e f, half_sum f g, parity_sum e f, parity_sum f g)
    (omega arith)

-- ---- The order: total, and decided

pub ⊑_refl : (a : Bound) → a ⊑ a
⊑_refl none = omega arith
⊑_refl (some e z) = omega arith

pub ⊑_trans : {a b c : Bound} → a ⊑ b → b ⊑ c → a ⊑ c
⊑_trans {a} {b} {c} p q = record { le = go a b c p.le q.le }
  where
    go : (a b c : Bound) → Below a b → Below b c → Below a c
    go a b none p q = tt
    go a none (some g x) p q = absurd q
    go none (some f y) (some g x) p q = absurd p
    go (some e z) (some f y) (some g x) p q = omega arith

pub dec⊑ : (a b : Bound) → Dec (a ⊑ b)
dec⊑ a none = yes (record { le = tt })
dec⊑ none (some f y) = no (λ (h : none ⊑ some f y). h.le)
dec⊑ (some e z) (some f y) = go (dec_le (e + 2 * y) (f + 2 * z))
  where
    go : Dec (e + 2 * y ≤ f + 2 * z) → Dec (some e z ⊑ some f y)
    go (yes h) = yes (omega arith)
    go (no n) = no (λ (h : some e z ⊑ some f y). n h.le)

pub total : (a b : Bound) → (a ⊑ b) ⊎ (b ⊑ a)
total a none = inl (record { le = tt })
total none (some f y) = inr (record { le = tt })
total (some e z) (some f y) = go (dec_le (e + 2 * y) (f + 2 * z))
  where
    go : Dec (e + 2 * y ≤ f + 2 * z) → (some e z ⊑ some f y) ⊎ (some f y ⊑ some e z)
    go (yes h) = inl (omega arith)
    go (no h) = inr (omega arith)

-- The tighter of two bounds.
unfoldable pub least : Bound → Bound → Bound
least a b = ⊎_elim (λ h. a) (λ h. b) (total a b)

-- It is as tight as both, and is as loose as one of them.
pub least_is : (a b : Bound) → (least a b ⊑ a) × (least a b ⊑ b) × ((a ⊑ least a b) ⊎ (b ⊑ least a b))
unfolding least
least_is a b = go (total a b)
  where
    go : (t : (a ⊑ b) ⊎ (b ⊑ a)) → (⊎_elim (λ h. a) (λ h. b) t ⊑ a) × (⊎_elim (λ h. a) (λ h. b) t ⊑ b)
        × ((a ⊑ ⊎_elim (λ h. a) (λ h. b) t) ⊎ (b ⊑ ⊎_elim (λ h. a) (λ h. b) t))
    go (inl h) = (⊑_refl a, h, inl (⊑_refl a))
    go (inr h) = (h, ⊑_refl b, inr (⊑_refl b))

-- ---- The sum: monotone, associative, commutative

pub ⊕-mono : {a b c d : Bound} → a ⊑ b → c ⊑ d → a ⊕ c ⊑ b ⊕ d
⊕-mono {a} {b} {c} {d} p q = record { le = go a b c d p.le q.le }
  where
    chain : (y z x w j k l m n : ℕ) → j + 2 * y ≤ k + 2 * z → l + 2 * x ≤ m + 2 * w → l ≡ k → m ≡ n
        → j + 2 * (y + x) ≤ n + 2 * (z + w)
    chain y z x w j k l m n r s t u = omega arith

    go : (a b c d : Bound) → Below a b → Below c d → Below (a ⊕ c) (b ⊕ d)
    go a none c d p q = tt
    go a (some f y) c none p q = tt
    go none (some f y) c (some g x) p q = absurd p
    go (some e z) (some f y) none (some g x) p q = absurd q
    go (some e z) (some f y) (some h w) (some g x) p q =
        chain y z x w (sum e h) (sum f h) (sum h f) (sum g f) (sum f g)
        (sum_mono e f h y z p) (sum_mono h g f x w q) (sum_comm h f) (sum_comm g f)

pub ⊕-assoc : (a b c : Bound) → (a ⊕ b) ⊕ c ≡ a ⊕ (b ⊕ c)
⊕-assoc none b c = refl
⊕-assoc (some e z) none c = refl
⊕-assoc (some e z) (some f y) none = refl
⊕-assoc (some e z) (some f y) (some g x) = ap₂ some (sum_assoc e f g) (omega arith)

pub ⊕-comm : (a b : Bound) → a ⊕ b ≡ b ⊕ a
⊕-comm none none = refl
⊕-comm none (some f y) = refl
⊕-comm (some e z) none = refl
⊕-comm (some e z) (some f y) = ap₂ some (sum_comm e f) (omega arith)

-- A bound that is not below zero tightens nothing, on the right or on the left.
pub ⊕-right : (a m : Bound) → weak_zero ⊑ m → a ⊑ a ⊕ m
⊕-right none m p = record { le = tt }
⊕-right (some e z) none p = record { le = tt }
⊕-right (some e z) (some f y) p = omega arith

pub ⊕-left : (a m : Bound) → weak_zero ⊑ m → a ⊑ m ⊕ a
⊕-left a m p = rw (⊕-comm m a) (⊕-right a m p)
