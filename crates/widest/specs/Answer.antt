-- The widest closed window of k rounds from log-in, the first among equals by exact parts; or that none is closed.
use Rattle.std.specs.Prelude.{◌≡◌, List, ℕ, length}
use Rattle.table.specs.Step.{Step}
use Rattle.table.specs.declared.Fault.TheVariants as fault
use Rattle.table.specs.declared.Read.TheVariants.{Counted, Refused}
use Rattle.wire.specs.Reading.{read_of}
use Rattle.asking.specs.declared.Admission.{Admission}
use Rattle.asking.specs.declared.Admission.TheVariants as admission
use Rattle.asking.specs.Admission.{need, in_range}
use Rattle.asking.specs.Rounds.{clocks_of, rounds_in}
use Rattle.window.specs.declared.Span.{Span}
use Rattle.window.specs.declared.Choice.{Choice}
use Rattle.window.specs.Widest.{Chosen}
use Rattle.plan.specs.Planned.{parts_in}
use Rattle.windows.specs.Answer.{Spanned}
use Rattle.widest.specs.declared.Answer.{Answer}
use Rattle.widest.specs.declared.Answer.TheVariants as answer

-- what is refused after the table: a number of rounds, as of plans, with place 0
abbrev pub admit_of : ℕ → ℕ → Admission
admit_of L k = need (in_range k L) fault.Rounds admission.Accepted

-- the whole question: the table first
unfoldable pub asking_of : List ℕ → ℕ → Admission
asking_of bytes k = elim (read_of bytes) [ Counted n L g ↦ admit_of L k | Refused f ↦ admission.Refused f ]

-- The choice among the windows of all steps of σ, with clocks 1 to n.
pub record Widens (n : ℕ) (σ : List Step) (c : Choice) : Type 0 where
  pub spans : ℕ → Span
  pub spanned : Spanned n σ spans
  pub chosen : Chosen (parts_in n σ) spans (length σ) c

abbrev pub Answered : ℕ → List Step → Answer → Type 0
Answered n σ (answer.Told c) = Widens n σ c
Answered n σ (answer.Refused f) = ⊥

-- A refusal, or else the choice.
abbrev pub Meets : Admission → ℕ → List Step → Answer → Type 0
Meets (admission.Refused f) n σ a = a ≡ answer.Refused f
Meets admission.Accepted n σ a = Answered n σ a

-- The answer to "widest window of k rounds", of the table that the bytes write down.
pub record Answers (bytes : List ℕ) (k : ℕ) (a : Answer) : Type 0 where
  pub answers : Meets (asking_of bytes k) (clocks_of bytes) (rounds_in bytes k) a
