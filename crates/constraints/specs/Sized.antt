-- k rounds of a good table, with at most 1024 steps: their moments, and their demands in two parts.
use Rattle.std.specs.Prelude.{◌≡◌, List, ◌++◌, ℕ, ◌+◌, ◌*◌, ◌≤◌, length}
use Rattle.std.proofs.Common.{ap, ◌∙◌, arith}
use Rattle.table.specs.Step.{Step, steps_of, Good}
use Rattle.table.specs.declared.Table.{Table}
use Rattle.runs.specs.Run.{copies}
use Rattle.runs.specs.declared.Demand.{Demand}
use Rattle.runs.specs.declared.Start.{Start}
use Rattle.runs.specs.Demand.{steps_demands, start_demands, starts_of, Clocks}
use Rattle.runs.specs.DemandOrder.{demands_is}
use Rattle.runs.specs.DemandRange.{Proper}
use Rattle.runs.specs.Tools.{Every}
use Rattle.constraints.specs.Rounds.{length_rounds}
use Rattle.constraints.specs.Demands.{demands_of, all_proper}

-- a good table whose guards are on its own clocks
pub record Tabled (t : Table) : Type 0 where
  pub good : Good t
  pub clocks : Clocks t.clocks (steps_of t)

-- such a table, and k rounds of it with at most 1024 steps
pub record Sized (t : Table) (k : ℕ) : Type 0 where
  pub good : Good t
  pub clocks : Clocks t.clocks (steps_of t)
  pub some : 1 ≤ k
  pub few : k * t.steps ≤ 1024

-- the steps of k rounds
abbrev pub rounds_of : Table → ℕ → List Step
rounds_of t k = copies (steps_of t) k

-- the number of moments
abbrev pub moments_of : Table → ℕ → ℕ
moments_of t k = k * t.steps + t.clocks + 1

-- the parts to a tick of plans and panel (01: P): as many as there are moments, which is enough for every cycle
abbrev pub parts_of : Table → ℕ → ℕ
parts_of t k = moments_of t k

-- the demands of the steps, and those of the starts
abbrev pub steps_part : Table → ℕ → List Demand
steps_part t k = steps_demands (rounds_of t k) 0 (λ j. length (rounds_of t k) + j)

abbrev pub starts_part : Table → Start → ℕ → List Demand
starts_part t v k = start_demands (k * t.steps) (starts_of v) 1 t.clocks

pub parts_are : (t : Table) (v : Start) (k : ℕ) → demands_of t v k ≡ steps_part t k ++ starts_part t v k
parts_are t v k =
    demands_is t.clocks (rounds_of t k) (starts_of v)
    ∙ ap (λ n. steps_part t k ++ start_demands n (starts_of v) 1 t.clocks) (length_rounds t k)

module _ (t : Table) (k : ℕ) (z : Sized t k) where
  pub sized_moments : moments_of t k ≤ 1031
  sized_moments = omega (arith, z.few, z.good.clocks_few)

  pub sized_proper : (v : Start) → Every (Proper (k * t.steps + t.clocks)) (demands_of t v k)
  sized_proper v = all_proper t v k z.good z.clocks
