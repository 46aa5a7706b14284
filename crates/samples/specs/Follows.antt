-- What 01 and N1 say of a sample.
use Rattle.std.specs.Prelude.{◌≡◌, List, map, ℕ, ◌+◌, ◌*◌, ℤ, length}
use Rattle.table.specs.declared.Read.TheVariants.{Counted}
use Rattle.table.specs.Step.{Step}
use Rattle.wire.specs.Reading.{read_of}
use Rattle.runs.specs.Run.{copies}
use Rattle.runs.specs.Demand.{ticks_of, Starts, starts_of, demands}
use Rattle.runs.specs.declared.Demand.{Demand}
use Rattle.runs.specs.Loop.{Loop}
use Rattle.runs.specs.Tools.{Every}
use Rattle.asking.specs.Rounds.{clocks_of, cycle_of}
use Rattle.rounds.specs.Answer.{Counts}
use Rattle.plan.specs.Planned.{Planned}
use Rattle.plan.specs.Answer.{moments_in, starts_in}
use Rattle.samples.specs.Samples.{Plan, planned, looped, Sample}

-- the bytes are a table
pub record Accepted (bytes : List ℕ) : Type 0 where
  pub steps : ℕ
  pub guards : ℕ
  pub read : read_of bytes ≡ Counted (clocks_of bytes) steps guards

-- a plan: as many moments as k rounds have steps and a start for each clock, in 01's parts, and these are the plan
pub record PlanIs (n : ℕ) (D : Starts) (τ : List Step) (k P : ℕ) (moments starts : List ℕ) : Type 0 where
  pub steps : length moments ≡ k * length τ
  pub clocks : length starts ≡ n
  pub parts : P ≡ k * length τ + n + 1
  pub planned : Planned P n (copies τ k) D (moments_in moments) (starts_in starts)

-- a loop whose demands have these bounds
pub record LoopIs (ds : List Demand) (row : List ℕ) (bounds : List ℤ) : Type 0 where
  pub loop : Loop ds row
  pub bounded : map ticks_of loop.used ≡ bounds

-- what is said of "plan for k"
abbrev pub PlanHolds : ℕ → Starts → List Step → Plan → Type 0
PlanHolds n D τ (planned k P moments starts) = PlanIs n D τ k P moments starts
PlanHolds n D τ (looped k row bounds) = LoopIs (demands n (copies τ k) D) row bounds

-- all that they say of a sample
pub record Follows (s : Sample) : Type 0 where
  pub accepted : Accepted s.bytes
  pub counted : Counts (clocks_of s.bytes) (starts_of s.start) (cycle_of s.bytes) s.count
  pub planned : Every (PlanHolds (clocks_of s.bytes) (starts_of s.start) (cycle_of s.bytes)) s.plans
