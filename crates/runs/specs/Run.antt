-- What a run of a list of steps is.
use Rattle.std.specs.Prelude.{◌≡◌, cond, ℕ, zero, suc, ◌+◌, ◌*◌, ◌-◌, ◌≤◌, ◌<◌}
use mathlib.Core.List.{List, [], ◌∷◌, ◌++◌, Memᴰ}
use Rattle.table.specs.Step.{Step, resets, up_of, down_of}
use Rattle.table.specs.declared.Guard.{Guard}
use Rattle.table.specs.declared.Relation.{Relation}
use Rattle.table.specs.declared.Relation.TheVariants.{Under, AtMost, Exactly, AtLeast, Over}

-- k rounds: k copies of the steps joined end to end
unfoldable pub copies : List Step → ℕ → List Step
copies σ zero = []
copies σ (suc k) = σ ++ copies σ k

-- how a relation compares a reading with a constant
abbrev pub Compares : Relation → ℕ → ℕ → Type 0
Compares Under constant reading = reading < constant
Compares AtMost constant reading = reading ≤ constant
Compares Exactly constant reading = reading ≡ constant
Compares AtLeast constant reading = constant ≤ reading
Compares Over constant reading = constant < reading

-- A clock's reading at moment i: the time since its last reset at an earlier step, which was moment r; or, if there was
-- none, and then r is 0, its starting reading s plus the time of moment i.
abbrev pub reading : (ℕ → ℕ) → ℕ → ℕ → ℕ → ℕ
reading t s zero i = s + t i
reading t s (suc r) i = t i - t (suc r)

-- the moment of each clock's last reset (01: zeroing), z before a step at moment i and this after it
unfoldable pub zeroed : Step → ℕ → (ℕ → ℕ) → ℕ → ℕ
zeroed step i z j = cond (resets step j) i (z j)

-- the reading at moment i of a guard's second clock, and 0 where it has none
unfoldable pub second_reading : (ℕ → ℕ) → (ℕ → ℕ) → (ℕ → ℕ) → ℕ → ℕ → ℕ
second_reading t s z i zero = 0
second_reading t s z i (suc j) = reading t (s (suc j)) (z (suc j)) i

-- A guard (01: bound) holds at moment i: its clock's reading less that of its second clock is compared with its constant, up − down
-- ticks of P parts each. What is taken off stands on the other side.
abbrev pub Passes : ℕ → (ℕ → ℕ) → (ℕ → ℕ) → (ℕ → ℕ) → ℕ → Guard → Type 0
Passes P t s z i g =
    Compares g.relation (second_reading t s z i g.second + up_of g * P) (reading t (s g.clock) (z g.clock) i + down_of g * P)

-- The steps σ go on from moment i, when clock j was last reset at moment z j: moments never decrease, and every guard of
-- every step holds.
pub data Goes (P : ℕ) (t s : ℕ → ℕ) : List Step → ℕ → (ℕ → ℕ) → Type 0 where
  done : {i : ℕ} {z : ℕ → ℕ} → Goes P t s [] i z
  next : {step : Step} {σ : List Step} {i : ℕ} {z : ℕ → ℕ}
      → t i ≤ t (suc i)
      → ((g : Guard) → Memᴰ g step.guards → Passes P t s z (suc i) g)
      → Goes P t s σ (suc i) (zeroed step (suc i) z)
      → Goes P t s (step ∷ σ) i z

-- A run of the steps σ, in P parts to a tick. Moment 0 is the start, moment i that of step i, and its time is t i; the
-- starting reading of clock j is s j.
pub record Run (P : ℕ) (σ : List Step) (t s : ℕ → ℕ) : Type 0 where
  pub start : t 0 ≡ 0
  pub goes : Goes P t s σ 0 (λ j. 0)
