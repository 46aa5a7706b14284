-- The report on a table's bytes.
use Rattle.std.specs.Prelude.{◌≡◌, List, [], ◌++◌, ℕ, zero, suc, ◌+◌, ◌*◌, ◌≤◌, ◌<◌, length, drop}
use Rattle.table.specs.declared.Read.{Read}
use Rattle.table.specs.declared.Read.TheVariants as read
use Rattle.wire.specs.Reading.{read_of}
use Rattle.runs.specs.declared.Start.TheVariants.{LogIn}
use Rattle.runs.specs.Demand.{starts_of}
use Rattle.asking.specs.Rounds.{clocks_of, cycle_of}
use Rattle.rounds.specs.declared.Count.{Count}
use Rattle.rounds.specs.Answer.{Counts}
use Rattle.plan_lines.specs.PlanLines.{plan_lines}
use Rattle.plan_report.specs.Found.{PlannedIn}
use Rattle.count_lines.specs.Lines.{counted_line, refusal_line, count_line, planned_of}

-- the lines after the second: those of the plan of k rounds, if there are rounds to plan
unfoldable pub rest_lines : ℕ → ℕ → ℕ → (ℕ → ℕ) → (ℕ → ℕ) → List ℕ
rest_lines n L zero t s = []
rest_lines n L (suc k) t s = plan_lines (suc k * L + n + 1) n L (suc k * L) t s

-- The report on a table with n clocks, L steps and g guards, the count r, and the moments t and starts s of the plan.
unfoldable pub report_of : ℕ → ℕ → ℕ → Count → (ℕ → ℕ) → (ℕ → ℕ) → List ℕ
report_of n L g r t s = counted_line n L g ++ count_line r ++ rest_lines n L (planned_of r) t s

-- A text reports on accepted bytes, with n clocks, L steps and g guards: the count is that of the table they write down, by log-in,
-- and where rounds are planned the moments and starts are their plan.
pub record Tells (bytes : List ℕ) (n L g : ℕ) (text : List ℕ) : Type 0 where
  pub count : Count
  pub moments : ℕ → ℕ
  pub starts : ℕ → ℕ
  pub counts : Counts (clocks_of bytes) (starts_of LogIn) (cycle_of bytes) count
  pub planned : 1 ≤ planned_of count → PlannedIn bytes n L (planned_of count) moments starts
  pub lines : text ≡ report_of n L g count moments starts

-- the same for any bytes, by the answer to the question "read"
abbrev pub TellsOf : Read → List ℕ → List ℕ → Type 0
TellsOf (read.Refused f) bytes text = text ≡ refusal_line f
TellsOf (read.Counted n L g) bytes text = Tells bytes n L g text

-- A text is the report on a table's bytes. There is only one (`report_unique`).
pub record Reports (bytes text : List ℕ) : Type 0 where
  pub reports : TellsOf (read_of bytes) bytes text

-- ---- what the entry does with the room lent to it
-- the report stands in the first places, as many as `end`, and the others are kept
pub record Stands (bytes before after : List ℕ) (end : ℕ) : Type 0 where
  pub text : List ℕ
  pub reports : Reports bytes text
  pub size : end ≡ length text
  pub contents : after ≡ text ++ drop end before

-- A room under 4,096 places is not touched; else the report stands there.
pub record Reported (bytes before after : List ℕ) (end : ℕ) : Type 0 where
  pub short : length before < 4096 → (after ≡ before) × (end ≡ 0)
  pub stands : 4096 ≤ length before → Stands bytes before after end
