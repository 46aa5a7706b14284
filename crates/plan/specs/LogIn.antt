-- A plan by log-in has all starts 0.
use Rattle.std.specs.Prelude.{◌≡◌, List, ℕ, ◌≤◌, ◌<◌}
use Rattle.table.specs.Step.{Step}
use Rattle.runs.specs.declared.Start.TheVariants.{LogIn}
use Rattle.runs.specs.Demand.{starts_of}
use Rattle.runs.specs.Start.{log_in_zero}
use Rattle.plan.specs.Planned.{Planned}

pub log_in_starts : (P n : ℕ) (σ : List Step) (t s : ℕ → ℕ) → Planned P n σ (starts_of LogIn) t s
    → (j : ℕ) → 0 < j → j ≤ n → s j ≡ 0
log_in_starts P n σ t s p = log_in_zero P n s p.allowed
