-- The demands of k rounds of a table by value.
use Rattle.std.proofs.Common.{subst}
use Rattle.std.specs.Prelude.{List, ℕ, ◌+◌, ◌*◌, get_or}
use Rattle.std.proofs.Math.Seq.{slice}
use Rattle.table.specs.Step.{steps_of, Good}
use Rattle.table.specs.declared.Table.{Table}
use Rattle.runs.specs.Run.{copies}
use Rattle.runs.specs.declared.Demand.{Demand}
use Rattle.runs.specs.declared.Start.{Start}
use Rattle.runs.specs.Demand.{guards_demands, starts_of, demands, Clocks}
use Rattle.runs.specs.DemandRange.{Proper, demands_proper}
use Rattle.runs.specs.Start.{start_upper}
use Rattle.runs.specs.Copies.{fairs_copies, clocks_copies}
use Rattle.runs.specs.Tools.{Every}
use Rattle.constraints.specs.Rounds.{length_rounds}

-- all of them
abbrev pub demands_of : Table → Start → ℕ → List Demand
demands_of t v k = demands t.clocks (copies (steps_of t) k) (starts_of v)

-- those of the guards of step s at moment i, from place g of the table on, when clock j was last reset at moment z j
unfoldable pub guards_from : Table → ℕ → ℕ → List ℕ → ℕ → List Demand
guards_from t s i z g = guards_demands (slice g (get_or t.ends (s + 1) 0) t.guards) i (λ j. get_or z j 0)

-- Each demand joins two different moments and has a small bound.
pub all_proper : (t : Table) (v : Start) (k : ℕ) → Good t → Clocks t.clocks (steps_of t)
    → Every (Proper (k * t.steps + t.clocks)) (demands_of t v k)
all_proper t v k good clocks =
    subst (λ n. Every (Proper (n + t.clocks)) (demands_of t v k)) (length_rounds t k)
    (demands_proper t.clocks (copies (steps_of t) k) (starts_of v) (fairs_copies (steps_of t) k good.fair)
    (clocks_copies t.clocks (steps_of t) k clocks) (start_upper v t.clocks).proper)
