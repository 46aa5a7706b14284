-- The answer to the question "plan for k", and what it writes.
use Rattle.std.specs.Prelude.{◌≡◌, List, ℕ, zero, suc, ◌-◌, ◌≤◌, length, get_or, take}
use Rattle.basics.specs.Places.{KeptFrom}
use Rattle.table.specs.Step.{Step}
use Rattle.table.specs.declared.Read.TheVariants.{Counted, Refused}
use Rattle.wire.specs.Reading.{read_of}
use Rattle.runs.specs.declared.Start.{Start}
use Rattle.runs.specs.Demand.{Starts, starts_of, demands}
use Rattle.runs.specs.Loop as runs
use Rattle.plan.specs.declared.Outcome.{Outcome}
use Rattle.plan.specs.declared.Outcome.TheVariants as outcome
use Rattle.asking.specs.declared.Admission.{Admission}
use Rattle.asking.specs.declared.Admission.TheVariants as admission
use Rattle.asking.specs.Admission.{admit_of}
use Rattle.asking.specs.Rounds.{clocks_of, rounds_in}
use Rattle.plan.specs.Planned.{parts_in, Planned}

-- the contents of the three rooms lent
pub record Rooms : Type 0 where
  pub times : List ℕ
  pub starts : List ℕ
  pub loop : List ℕ

abbrev pub rooms : List ℕ → List ℕ → List ℕ → Rooms
rooms t s l = record { times = t; starts = s; loop = l }

-- the moments in a room: moment 0 is the start, and moment i is at place i − 1
abbrev pub moments_in : List ℕ → ℕ → ℕ
moments_in l zero = 0
moments_in l (suc i) = get_or l i 0

-- the starts in a room: that of clock j is at place j − 1
abbrev pub starts_in : List ℕ → ℕ → ℕ
starts_in l j = get_or l (j - 1) 0

-- ---- the two answers, for steps σ with clocks 1 to n, from starts that D allows
-- A run exists: the plan in P parts to a tick is in the first places of two rooms.
pub record Planning (n : ℕ) (σ : List Step) (D : Starts) (r r' : Rooms) (P : ℕ) : Type 0 where
  pub parts : P ≡ parts_in n σ
  pub planned : Planned P n σ D (moments_in r'.times) (starts_in r'.starts)
  pub times : KeptFrom (length σ) r.times r'.times
  pub starts : KeptFrom n r.starts r'.starts
  pub loop : r'.loop ≡ r.loop

-- No run exists: a loop of m moments is in the first places of the third room.
pub record Refuted (n : ℕ) (σ : List Step) (D : Starts) (r r' : Rooms) (m : ℕ) : Type 0 where
  pub loop : runs.Loop (demands n σ D) (take m r'.loop)
  pub few : m ≤ length r.loop
  pub rest : KeptFrom m r.loop r'.loop
  pub times : r'.times ≡ r.times
  pub starts : r'.starts ≡ r.starts

-- one of the two
abbrev pub Answered : ℕ → List Step → Starts → Rooms → Rooms → Outcome → Type 0
Answered n σ D r r' (outcome.Found P) = Planning n σ D r r' P
Answered n σ D r r' (outcome.Loop m) = Refuted n σ D r r' m
Answered n σ D r r' (outcome.Refused f) = ⊥

-- ---- what is refused
-- the tests after the table: n clocks, L steps, k rounds
abbrev pub admit_rooms : ℕ → ℕ → ℕ → Rooms → Admission
admit_rooms n L k r = admit_of n L k (length r.times) (length r.starts) (length r.loop)

-- the whole question: the table first
unfoldable pub asking_of : List ℕ → ℕ → Rooms → Admission
asking_of bytes k r = elim (read_of bytes) [ Counted n L g ↦ admit_rooms n L k r | Refused f ↦ admission.Refused f ]

-- A refusal, and rooms that are untouched; or else the answer.
abbrev pub Meets : Admission → ℕ → List Step → Starts → Rooms → Rooms → Outcome → Type 0
Meets (admission.Refused f) n σ D r r' a = (a ≡ outcome.Refused f) × (r' ≡ r)
Meets admission.Accepted n σ D r r' a = Answered n σ D r r' a

-- The answer to "plan for k", of the table that the bytes write down, in a variant of the start: the rooms hold r before and r' after.
pub record Answers (bytes : List ℕ) (v : Start) (k : ℕ) (r r' : Rooms) (a : Outcome) : Type 0 where
  pub answers : Meets (asking_of bytes k r) (clocks_of bytes) (rounds_in bytes k) (starts_of v) r r' a
