-- What a plan is.
use Rattle.std.specs.Prelude.{List, ℕ, ◌+◌, ◌≤◌, ◌<◌, length}
use Rattle.table.specs.Step.{Step}
use Rattle.runs.specs.Run.{Run}
use Rattle.runs.specs.Demand.{Starts, Allowed}

-- the parts to a tick of a plan of the steps σ with n clocks (01: P): as many as there are moments
abbrev pub parts_in : ℕ → List Step → ℕ
parts_in n σ = length σ + n + 1

-- The moments t and the starts s of clocks 1 to n are a plan of the steps σ in P parts to a tick: they are a run from an
-- allowed start, no such run has an earlier moment, and no such run with these moments has a smaller start.
pub record Planned (P n : ℕ) (σ : List Step) (D : Starts) (t s : ℕ → ℕ) : Type 0 where
  pub run : Run P σ t s
  pub allowed : Allowed P D n s
  pub earliest : (u r : ℕ → ℕ) → Run P σ u r → Allowed P D n r → (i : ℕ) → i ≤ length σ → t i ≤ u i
  pub smallest : (r : ℕ → ℕ) → Run P σ t r → Allowed P D n r → (j : ℕ) → 0 < j → j ≤ n → s j ≤ r j
