-- The steps of a table: guards (01: bounds) and resets (zeroings) of clocks (timers) 1 to 6.
use Rattle.std.specs.Prelude.{◌≡◌, refl, ◌⊎◌, Bool, true, false, cond, ℕ, zero, suc, ◌+◌, ◌*◌, ◌≤◌, ◌<◌, length, get_or}
use Rattle.std.proofs.Common.{inl, inr, arith}
use mathlib.Core.List.{List, [], ◌∷◌, Memᴰ}
use Rattle.std.proofs.Math.Seq.{slice}
use Rattle.table.specs.declared.Guard.{Guard}
use Rattle.table.specs.declared.Table.{Table}

-- All guards of a step are tested first, then all its resets take place. Place j of `flags` is true where clock j is reset.
pub record Step : Type 0 where
  pub guards : List Guard
  pub flags : List Bool

-- whether a step resets clock j
abbrev pub resets : Step → ℕ → Bool
resets s j = get_or s.flags j false

-- the constant of a guard is up − down ticks, and one of these is 0
unfoldable pub up_of : Guard → ℕ
up_of g = cond g.minus 0 g.constant

unfoldable pub down_of : Guard → ℕ
down_of g = cond g.minus g.constant 0

pub up_most : (g : Guard) → up_of g ≤ g.constant
unfolding up_of
up_most g = go g.minus
  where
    go : (b : Bool) → cond b 0 g.constant ≤ g.constant
    go true = omega arith
    go false = omega arith

pub down_most : (g : Guard) → down_of g ≤ g.constant
unfolding down_of
down_most g = go g.minus
  where
    go : (b : Bool) → cond b g.constant 0 ≤ g.constant
    go true = omega arith
    go false = omega arith

pub up_or_down : (g : Guard) → (up_of g ≡ 0) ⊎ (down_of g ≡ 0)
unfolding up_of down_of
up_or_down g = go g.minus
  where
    go : (b : Bool) → (cond b 0 g.constant ≡ 0) ⊎ (cond b g.constant 0 ≡ 0)
    go true = inl refl
    go false = inr refl

pub up_plain : (g : Guard) → g.minus ≡ false → up_of g ≡ g.constant
unfolding up_of
up_plain g e = rw e

pub down_plain : (g : Guard) → g.minus ≡ false → down_of g ≡ 0
unfolding down_of
down_plain g e = rw e

-- What a guard's clock is compared with, from time i on back: i itself where it has no second clock, else the last reset of that one.
unfoldable pub end_of : ℕ → ℕ → (ℕ → ℕ) → ℕ
end_of zero i z = i
end_of (suc j) i z = z (suc j)

pub end_none : (j i : ℕ) (z : ℕ → ℕ) → j ≡ 0 → end_of j i z ≡ i
unfolding end_of
end_none j i z e = rw e

pub end_some : (j i : ℕ) (z : ℕ → ℕ) → 0 < j → end_of j i z ≡ z j
unfolding end_of
end_some zero i z p = absurd (omega arith)
end_some (suc j) i z p = refl

-- a guard that a table may have
pub record FairGuard (g : Guard) : Type 0 where
  pub first : 0 < g.clock
  pub last : g.clock < 7
  pub second : g.second < 7
  pub plain : g.second ≡ 0 → g.minus ≡ false
  pub small : g.constant ≤ 4000

-- a guard of one clock: it has no second one, and no sign
pub record Plain (g : Guard) : Type 0 where
  pub second : g.second ≡ 0
  pub minus : g.minus ≡ false

pub record Fair (s : Step) : Type 0 where
  pub guards : (g : Guard) → Memᴰ g s.guards → FairGuard g

abbrev pub Fairs : List Step → Type 0
Fairs σ = (s : Step) → Memᴰ s σ → Fair s

-- step i, from 0, of a table by value
unfoldable pub step_at : Table → ℕ → Step
step_at t i =
    record {
      guards = slice (get_or t.ends i 0) (get_or t.ends (i + 1) 0) t.guards;
      flags = slice (7 * i) (7 * i + 7) t.resets;
    }

-- n steps from step i on
unfoldable pub steps_from : Table → ℕ → ℕ → List Step
steps_from t i zero = []
steps_from t i (suc n) = step_at t i ∷ steps_from t (suc i) n

-- the steps of a table by value
unfoldable pub steps_of : Table → List Step
steps_of t = steps_from t 0 t.steps

-- A table by value that was accepted: its limits, the guards of its steps one after the other, and each guard fair.
pub record Good (t : Table) : Type 0 where
  pub clocks_some : 1 ≤ t.clocks
  pub clocks_few : t.clocks ≤ 6
  pub steps_some : 1 ≤ t.steps
  pub steps_few : t.steps ≤ 16
  pub order : (i : ℕ) → i < t.steps → get_or t.ends i 0 ≤ get_or t.ends (i + 1) 0
  pub room : (i : ℕ) → i ≤ t.steps → get_or t.ends i 0 ≤ 64
  pub guards_size : length t.guards ≡ 64
  pub ends_size : length t.ends ≡ 18
  pub resets_size : length t.resets ≡ 119
  pub fair : Fairs (steps_of t)
