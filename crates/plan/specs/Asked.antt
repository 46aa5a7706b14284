-- What a plan is asked of: steps, and the starts that are allowed.
use Rattle.std.specs.Prelude.{List, ℕ, ◌+◌, ◌≤◌, ◌<◌, length}
use Rattle.std.proofs.Common.{arith}
use Rattle.table.specs.Step.{Step, Fairs, steps_of}
use Rattle.table.specs.declared.Table.{Table}
use Rattle.runs.specs.declared.Start.{Start}
use Rattle.runs.specs.Demand.{Starts, starts_of, demands, Clocks, Places}
use Rattle.runs.specs.Start.{start_upper}
use Rattle.runs.specs.DemandRange.{Proper, demands_proper}
use Rattle.runs.specs.Tools.{Every}
use Rattle.runs.specs.Copies.{fairs_copies, clocks_copies}
use Rattle.constraints.specs.Sized.{Sized, rounds_of}

-- The guards of the steps are fair and on clocks 1 to n, of which there are at most six; a demand on a start is among the clocks and the
-- start, and small.
pub record Asked (n : ℕ) (σ : List Step) (D : Starts) : Type 0 where
  pub few : n < 7
  pub fair : Fairs σ
  pub clocks : Clocks n σ
  pub proper : (j : ℕ) → 0 < j → j ≤ n → Every (Proper n) (D j)

-- in each variant of the start
pub asked_start : (v : Start) (n : ℕ) (σ : List Step) → n < 7 → Fairs σ → Clocks n σ → Asked n σ (starts_of v)
asked_start v n σ l f c = record { few = l; fair = f; clocks = c; proper = (start_upper v n).proper }

pub sized_asked : (t : Table) (v : Start) (k : ℕ) → Sized t k → Asked t.clocks (rounds_of t k) (starts_of v)
sized_asked t v k z =
    asked_start v t.clocks (rounds_of t k) (omega (arith, z.good.clocks_few)) (fairs_copies (steps_of t) k z.good.fair)
    (clocks_copies t.clocks (steps_of t) k z.clocks)

module _ (n : ℕ) (σ : List Step) (D : Starts) (a : Asked n σ D) where
  pub asked_places : Places n D
  asked_places j p l d m = ((a.proper j p l d m).from, (a.proper j p l d m).to)

  pub asked_proper : Every (Proper (length σ + n)) (demands n σ D)
  asked_proper = demands_proper n σ D a.fair a.clocks a.proper
