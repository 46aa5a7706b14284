-- The rows that a pass goes over, and what is asked of them.
use Rattle.std.specs.Prelude.{◌≡◌, Bool, false, List, ℕ, ◌+◌, ◌%◌, ◌≤◌, ◌<◌, length, get_or}
use Rattle.std.proofs.Common.{arith}
use Rattle.runs.specs.declared.Demand.{Demand}
use Rattle.runs.specs.declared.Start.{Start}
use Rattle.runs.specs.Demand.{starts_of}
use Rattle.runs.specs.Tools.{Every}
use Rattle.leads.specs.Leads.{led_by, Leading}
use Rattle.sweeps.specs.Order.{sweep_of}
use Rattle.paths.specs.Constraint.{Constraint}
use Rattle.checks.specs.InParts.{edges}
use Rattle.checks.specs.Checks.{Slight}
use Rattle.ways.specs.Forth.{Going}

-- With a place 7 * s + j for step s of a round and clock j: the keys of the tightest guards from below and from above, their
-- constants in parts; and the distances to the last resets. Beside them the row of the guards between two clocks. Rounds have so many
-- steps and clocks, and all rounds together `total` steps; they start as the variant says.
pub record Rows : Type 0 where
  pub low : List ℕ
  pub up : List ℕ
  pub leads : List ℕ
  pub far : List ℕ
  pub start : Start
  pub steps : ℕ
  pub clocks : ℕ
  pub total : ℕ

abbrev pub rows : List ℕ → List ℕ → List ℕ → List ℕ → Start → ℕ → ℕ → ℕ → Rows
rows low up leads far v L n K = record { low = low; up = up; leads = leads; far = far; start = v; steps = L; clocks = n; total = K }

-- the demands of a pass, in its order
abbrev pub sweep : Rows → List Demand
sweep R = sweep_of R.low R.up (led_by R.leads) R.far (starts_of R.start) R.steps R.clocks R.total

-- the number of moments
abbrev pub moments : Rows → ℕ
moments R = R.total + R.clocks + 1

-- the demands as constraints
unfoldable pub constraints_of : Rows → List Constraint
constraints_of R = edges (sweep R)

-- What is asked of all: whole rounds, one at least, no clock that is ever reset left alone for longer than a round, and demands between
-- the moments with small bounds.
pub record Sound (R : Rows) : Type 0 where
  pub low : length R.low ≡ 112
  pub up : length R.up ≡ 112
  pub leads : Leading R.leads R.steps
  pub far : length R.far ≡ 112
  pub some : 0 < R.steps
  pub steps : R.steps ≤ 16
  pub clocks : R.clocks ≤ 6
  pub few : R.total ≤ 1024
  pub round : R.steps ≤ R.total
  pub whole : R.total % R.steps ≡ 0
  pub near : (p : ℕ) → get_or R.far p 0 ≤ R.steps
  pub slight : Every (Slight (moments R)) (sweep R)

module _ (R : Rows) (z : Sound R) where
  pub sound_moments : moments R ≤ 1031
  sound_moments = omega (arith, z.few, z.clocks)

  pub going_low : Going R.low R.far R.steps R.clocks R.total
  going_low =
      record { keyed = z.low; reached = z.far; some = z.some; steps = z.steps; clocks = z.clocks; few = z.few }

  pub going_up : Going R.up R.far R.steps R.clocks R.total
  going_up =
      record { keyed = z.up; reached = z.far; some = z.some; steps = z.steps; clocks = z.clocks; few = z.few }

-- `led` is false only where the rows have no guard between two clocks
abbrev pub Tells : Bool → Rows → Type 0
Tells led R = led ≡ false → get_or R.leads R.steps 0 ≡ 0
