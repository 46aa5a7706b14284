-- No guard tells two times apart from two others that are as far from each other, or farther than any constant.
use Rattle.std.specs.Prelude.{◌≡◌, ◌⊎◌, ℕ, ◌+◌, ◌*◌, ◌≤◌, ◌<◌}
use Rattle.std.proofs.Common.{inl, inr, arith, mul-le-mul_right}
use Rattle.table.specs.Step.{up_of, down_of, up_most, down_most, FairGuard}
use Rattle.table.specs.declared.Guard.{Guard}
use Rattle.table.specs.declared.Relation.{Relation}
use Rattle.table.specs.declared.Relation.TheVariants.{Under, AtMost, Exactly, AtLeast, Over}
use Rattle.runs.specs.Run.{Compares}
use Rattle.runs.specs.Steps.{Met}

-- m is as much after y as t is after z; or both are B or more after it, or both B or more before
abbrev pub Apart : ℕ → ℕ → ℕ → ℕ → ℕ → Type 0
Apart B z t y m = (z + m ≡ t + y) ⊎ (((z + B ≤ t) × (y + B ≤ m)) ⊎ ((t + B ≤ z) × (m + B ≤ y)))

-- a relation tells no such pairs apart, where c and d are less than B
pub compares_apart : (r : Relation) (B c d z t y m : ℕ) → c < B → d < B → Apart B z t y m
    → Compares r (z + c) (t + d) → Compares r (y + c) (m + d)
compares_apart Under B c d z t y m k l (inl e) h = omega arith
compares_apart Under B c d z t y m k l (inr (inl e)) h = omega arith
compares_apart Under B c d z t y m k l (inr (inr e)) h = omega arith
compares_apart AtMost B c d z t y m k l (inl e) h = omega arith
compares_apart AtMost B c d z t y m k l (inr (inl e)) h = omega arith
compares_apart AtMost B c d z t y m k l (inr (inr e)) h = omega arith
compares_apart Exactly B c d z t y m k l (inl e) h = omega arith
compares_apart Exactly B c d z t y m k l (inr (inl e)) h = omega arith
compares_apart Exactly B c d z t y m k l (inr (inr e)) h = omega arith
compares_apart AtLeast B c d z t y m k l (inl e) h = omega arith
compares_apart AtLeast B c d z t y m k l (inr (inl e)) h = omega arith
compares_apart AtLeast B c d z t y m k l (inr (inr e)) h = omega arith
compares_apart Over B c d z t y m k l (inl e) h = omega arith
compares_apart Over B c d z t y m k l (inr (inl e)) h = omega arith
compares_apart Over B c d z t y m k l (inr (inr e)) h = omega arith

-- a guard that is met by two times says how they compare, and the other way round
met_compares : (r : Relation) (c d z t : ℕ) → Met r c z (t + d) → Compares r (z + c) (t + d)
met_compares Under c d z t h = h.met
met_compares AtMost c d z t h = h.met
met_compares Exactly c d z t h = h.met
met_compares AtLeast c d z t h = h.met
met_compares Over c d z t h = h.met

compares_met : (r : Relation) (c d z t : ℕ) → Compares r (z + c) (t + d) → Met r c z (t + d)
compares_met Under c d z t h = record { met = h }
compares_met AtMost c d z t h = record { met = h }
compares_met Exactly c d z t h = record { met = h }
compares_met AtLeast c d z t h = record { met = h }
compares_met Over c d z t h = record { met = h }

-- what a guard of a table takes, in parts, is less than 4001 ticks
pub up_small : (P : ℕ) (g : Guard) → 0 < P → FairGuard g → up_of g * P < 4001 * P
up_small P g p f =
    let h : up_of g ≤ 4000 = omega (arith, up_most g, f.small) in omega (arith, mul-le-mul_right P h)

pub down_small : (P : ℕ) (g : Guard) → 0 < P → FairGuard g → down_of g * P < 4001 * P
down_small P g p f =
    let h : down_of g ≤ 4000 = omega (arith, down_most g, f.small) in omega (arith, mul-le-mul_right P h)

-- A guard of a table is met by both or neither of such pairs of times, those from 4001 ticks on being far.
pub met_fair : (P : ℕ) (g : Guard) (z t y m : ℕ) → 0 < P → FairGuard g → Apart (4001 * P) z t y m
    → Met g.relation (up_of g * P) z (t + down_of g * P) → Met g.relation (up_of g * P) y (m + down_of g * P)
met_fair P g z t y m p f a h =
    compares_met g.relation _ _ y m
    (compares_apart g.relation (4001 * P) _ _ z t y m (up_small P g p f) (down_small P g p f) a
    (met_compares g.relation _ _ z t h))
