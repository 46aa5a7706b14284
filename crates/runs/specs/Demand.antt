-- The difference constraints of a run, in 01's order, and that a run exists.
use Rattle.std.specs.Prelude.{Bool, true, false, ℕ, zero, suc, ◌+◌, ◌*◌, ◌≤◌, ◌<◌, ℤ, pos, ◌-ℤ◌, length}
use mathlib.Core.List.{List, [], ◌∷◌, ◌++◌, map, Memᴰ}
use Rattle.table.specs.Step.{Step, up_of, down_of, end_of}
use Rattle.table.specs.declared.Guard.{Guard}
use Rattle.table.specs.declared.Relation.{Relation}
use Rattle.table.specs.declared.Relation.TheVariants.{Under, AtMost, Exactly, AtLeast, Over}
use Rattle.runs.specs.declared.Demand.{Demand}
use Rattle.runs.specs.declared.Start.{Start}
use Rattle.runs.specs.declared.Start.TheVariants.{LogIn, MidShift}
use Rattle.runs.specs.Run.{zeroed, Run}

-- at most, or under if strict
abbrev pub Within : Bool → ℕ → ℕ → Type 0
Within true a b = a < b
Within false a b = a ≤ b

-- it holds of a row of times x, one for each moment, in P parts to a tick
pub record Holds (P : ℕ) (x : ℕ → ℕ) (d : Demand) : Type 0 where
  pub holds : Within d.strict (x d.to + d.down * P) (x d.from + d.up * P)

-- its bound, in ticks
abbrev pub ticks_of : Demand → ℤ
ticks_of d = pos d.up -ℤ pos d.down

-- "from a to b of u − d", "from a to b of c" and "from a to b of −c"
abbrev pub bounded : ℕ → ℕ → ℕ → ℕ → Bool → Demand
bounded a b u d strict = record { from = a; to = b; up = u; down = d; strict = strict }

abbrev pub plus : ℕ → ℕ → ℕ → Bool → Demand
plus a b c strict = bounded a b c 0 strict

abbrev pub minus : ℕ → ℕ → ℕ → Bool → Demand
minus a b c strict = bounded a b 0 c strict

-- the demands of a guard with constant u − d on a clock that was last reset at moment z: e is the step's own moment, or the moment
-- of the second clock's last reset
abbrev pub guard_demands : Relation → ℕ → ℕ → ℕ → ℕ → List Demand
guard_demands Under u d z e = bounded z e u d true ∷ []
guard_demands AtMost u d z e = bounded z e u d false ∷ []
guard_demands Exactly u d z e = bounded z e u d false ∷ bounded e z d u false ∷ []
guard_demands AtLeast u d z e = bounded e z d u false ∷ []
guard_demands Over u d z e = bounded e z d u true ∷ []

-- those of a guard at moment i, when clock j was last reset at moment z j
abbrev pub demands_at : Guard → ℕ → (ℕ → ℕ) → List Demand
demands_at g i z = guard_demands g.relation (up_of g) (down_of g) (z g.clock) (end_of g.second i z)

-- the demands of the guards at moment i, in table order, when clock j was last reset at moment z j
unfoldable pub guards_demands : List Guard → ℕ → (ℕ → ℕ) → List Demand
guards_demands [] i z = []
guards_demands (g ∷ gs) i z = demands_at g i z ++ guards_demands gs i z

-- the demands of the steps σ that follow moment i, when clock j was last reset at moment z j
unfoldable pub steps_demands : List Step → ℕ → (ℕ → ℕ) → List Demand
steps_demands [] i z = []
steps_demands (step ∷ σ) i z =
    plus (suc i) i 0 false
    ∷ guards_demands step.guards (suc i) z
    ++ steps_demands σ (suc i) (zeroed step (suc i) z)

-- Which starts are allowed: those that meet the demands D j, for each clock j. In these, place 0 stands for the start,
-- and place j for the last reset of clock j before it.
abbrev pub Starts : Type 0
Starts = ℕ → List Demand

-- any starting readings
unfoldable pub any_starts : Starts
any_starts j = []

-- all starting readings 0: no clock was last reset before the start
unfoldable pub zero_starts : Starts
zero_starts j = plus j 0 0 false ∷ []

-- those of each variant
abbrev pub starts_of : Start → Starts
starts_of LogIn = zero_starts
starts_of MidShift = any_starts

-- the moment of a place, when there are K steps
abbrev pub moment : ℕ → ℕ → ℕ
moment K zero = 0
moment K (suc j) = K + suc j

-- a demand between places as one between moments
abbrev pub moved : ℕ → Demand → Demand
moved K d =
    record { from = moment K d.from; to = moment K d.to; up = d.up; down = d.down; strict = d.strict }

-- the demands on the starts of n clocks, from clock j on
unfoldable pub start_demands : ℕ → Starts → ℕ → ℕ → List Demand
start_demands K D j zero = []
start_demands K D j (suc n) = plus 0 (K + j) 0 false ∷ map (moved K) (D j) ++ start_demands K D (suc j) n

-- All demands of the K steps σ and of clocks 1 to n, in 01's demand order. The moments are 0 to K, and K + 1 to K + n
-- for the last resets of the clocks before the start.
unfoldable pub demands : ℕ → List Step → Starts → List Demand
demands n σ D = steps_demands σ 0 (λ j. length σ + j) ++ start_demands (length σ) D 1 n

-- how long before the start a place is, when the starting readings are s
abbrev pub back : (ℕ → ℕ) → ℕ → ℕ
back s zero = 0
back s (suc j) = s (suc j)

-- the starting readings s meet a demand between places: time(to) − time(from) is back(from) − back(to)
abbrev pub Suits : ℕ → (ℕ → ℕ) → Demand → Type 0
Suits P s d = Within d.strict (back s d.from + d.down * P) (back s d.to + d.up * P)

-- The starting readings s of clocks 1 to n are allowed by D.
pub record Allowed (P : ℕ) (D : Starts) (n : ℕ) (s : ℕ → ℕ) : Type 0 where
  pub allowed : (j : ℕ) → 0 < j → j ≤ n → (d : Demand) → Memᴰ d (D j) → Suits P s d

-- A run of σ exists, in some number of parts, from a start that D allows. For k rounds σ is `copies τ k`.
pub record Exists (n : ℕ) (D : Starts) (σ : List Step) : Type 0 where
  pub parts : ℕ
  pub positive : 0 < parts
  pub moments : ℕ → ℕ
  pub starts : ℕ → ℕ
  pub allowed : Allowed parts D n starts
  pub run : Run parts σ moments starts

-- the guards of σ are on clocks 1 to n
abbrev pub OnClocks : ℕ → Guard → Type 0
OnClocks n g = (0 < g.clock) × (g.clock ≤ n) × (g.second ≤ n)

abbrev pub Clocks : ℕ → List Step → Type 0
Clocks n σ = (step : Step) → Memᴰ step σ → (g : Guard) → Memᴰ g step.guards → OnClocks n g

-- D's demands for clocks 1 to n are between places 0 to n
abbrev pub Places : ℕ → Starts → Type 0
Places n D = (j : ℕ) → 0 < j → j ≤ n → (d : Demand) → Memᴰ d (D j) → (d.from ≤ n) × (d.to ≤ n)
