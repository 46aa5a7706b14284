-- When each step may happen, over all runs from allowed starts, in P parts to a tick.
use Rattle.std.specs.Prelude.{◌≡◌, List, ℕ, ◌≤◌}
use Rattle.table.specs.Step.{Step}
use Rattle.runs.specs.Run.{Run}
use Rattle.runs.specs.Demand.{Starts, Allowed, Exists}
use Rattle.window.specs.declared.Span.{Span}
use Rattle.window.specs.declared.Span.TheVariants.{Closed, Open, Absent}

-- a run of the steps σ with clocks 1 to n, from a start that D allows, of whose moments Q holds
pub record With (P n : ℕ) (σ : List Step) (D : Starts) (Q : (ℕ → ℕ) → Type 0) : Type 0 where
  pub moments : ℕ → ℕ
  pub starts : ℕ → ℕ
  pub run : Run P σ moments starts
  pub allowed : Allowed P D n starts
  pub fact : Q moments

-- Moment i is at `first` in one run, and in none before it.
pub record Earliest (P n : ℕ) (σ : List Step) (D : Starts) (i first : ℕ) : Type 0 where
  pub reached : With P n σ D (λ t. t i ≡ first)
  pub bound : (t s : ℕ → ℕ) → Run P σ t s → Allowed P D n s → first ≤ t i

-- It is at `last` in one run, and in none after it.
pub record Latest (P n : ℕ) (σ : List Step) (D : Starts) (i last : ℕ) : Type 0 where
  pub reached : With P n σ D (λ t. t i ≡ last)
  pub bound : (t s : ℕ → ℕ) → Run P σ t s → Allowed P D n s → t i ≤ last

-- However late is asked for, in some run it is as late as that.
abbrev pub Unbounded : ℕ → ℕ → List Step → Starts → ℕ → Type 0
Unbounded P n σ D i = (T : ℕ) → With P n σ D (λ t. T ≤ t i)

-- Moment i may happen in this span: between an earliest and a latest moment; from an earliest one on; or never, as no run exists, in
-- any number of parts.
abbrev pub Spans : ℕ → ℕ → List Step → Starts → ℕ → Span → Type 0
Spans P n σ D i (Closed first last) = Earliest P n σ D i first × Latest P n σ D i last
Spans P n σ D i (Open first) = Earliest P n σ D i first × Unbounded P n σ D i
Spans P n σ D i Absent = ¬ Exists n D σ
