-- The answer to the question "one start for every length", and what it writes. Runs are those of mid-shift: from any readings.
use Rattle.std.specs.Prelude.{◌≡◌, List, ℕ, ◌+◌, ◌-◌, leb, length, get_or}
use Rattle.basics.specs.Places.{KeptFrom}
use Rattle.table.specs.Step.{Step}
use Rattle.table.specs.declared.Fault.TheVariants as fault
use Rattle.table.specs.declared.Read.TheVariants.{Counted, Refused}
use Rattle.wire.specs.Reading.{read_of}
use Rattle.runs.specs.declared.Start.TheVariants.{MidShift}
use Rattle.runs.specs.Demand.{starts_of}
use Rattle.runs.specs.Lasting.{Smallest}
use Rattle.asking.specs.declared.Admission.{Admission}
use Rattle.asking.specs.declared.Admission.TheVariants as admission
use Rattle.asking.specs.Admission.{need}
use Rattle.asking.specs.Rounds.{clocks_of, cycle_of}
use Rattle.rounds.specs.declared.Count.TheVariants as count
use Rattle.rounds.specs.Answer.{Counts}
use Rattle.one_start.specs.declared.Lasting.{Lasting}
use Rattle.one_start.specs.declared.Lasting.TheVariants as lasting

-- ---- the two answers, for steps τ with clocks 1 to n (02: timers), where the starts room holds l before and l' after
-- The count is finite: it is returned, and nothing is written.
pub record Stops (n : ℕ) (τ : List Step) (l l' : List ℕ) (c : ℕ) : Type 0 where
  pub counts : Counts n (starts_of MidShift) τ (count.Finite c)
  pub room : l' ≡ l

-- Every number of rounds runs. The smallest readings from which all of them do, in n + 1 parts to a tick, are in the first n places, that of
-- clock j at place j - 1; the rest is kept.
pub record Lasts (n : ℕ) (τ : List Step) (l l' : List ℕ) (parts : ℕ) : Type 0 where
  pub counts : Counts n (starts_of MidShift) τ count.Endless
  pub parts_are : parts ≡ n + 1
  pub smallest : Smallest n τ (λ j. get_or l' (j - 1) 0)
  pub room : KeptFrom n l l'

-- one of the two
abbrev pub Answered : ℕ → List Step → List ℕ → List ℕ → Lasting → Type 0
Answered n τ l l' (lasting.Finite c) = Stops n τ l l' c
Answered n τ l l' (lasting.Parts p) = Lasts n τ l l' p
Answered n τ l l' (lasting.Refused f) = ⊥

-- ---- what is refused
-- after the table: a room of fewer than n places
unfoldable pub admit_of : ℕ → ℕ → Admission
admit_of n starts = need (leb n starts) fault.Starts admission.Accepted

-- the whole question: the table first
unfoldable pub asking_of : List ℕ → ℕ → Admission
asking_of bytes starts = elim (read_of bytes) [ Counted n L g ↦ admit_of n starts | Refused f ↦ admission.Refused f ]

-- A refusal, and a room that is untouched; or else the answer.
abbrev pub Meets : Admission → ℕ → List Step → List ℕ → List ℕ → Lasting → Type 0
Meets (admission.Refused f) n τ l l' r = (r ≡ lasting.Refused f) × (l' ≡ l)
Meets admission.Accepted n τ l l' r = Answered n τ l l' r

-- The answer to the question, of the table that the bytes write down.
pub record Answers (bytes l l' : List ℕ) (r : Lasting) : Type 0 where
  pub answers : Meets (asking_of bytes (length l)) (clocks_of bytes) (cycle_of bytes) l l' r
