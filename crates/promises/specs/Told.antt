-- What the four numbers of an answer are, and what they say. They stand in the first places of the answer room that an entry of
-- judge/src/lib.rt leaves (Entries.antt): 01's number of a refusal and its place; or 0 and the values (numbers/specs/Numbers.antt).
use Rattle.std.specs.Prelude.{◌≡◌, ◌⊎◌, List, ℕ, ◌≤◌, ℤ, get_or, take}
use Rattle.table.specs.declared.Read.TheVariants as read
use Rattle.wire.specs.Records.{Bytes}
use Rattle.wire.specs.Reading.{read_of}
use Rattle.runs.specs.declared.Start.{Start}
use Rattle.runs.specs.Loop.{Loop}
use Rattle.asking.specs.Rounds.{demands_in}
use Rattle.rounds.specs.declared.Count.{Count}
use Rattle.rounds.specs.Answer as rounds
use Rattle.plan.specs.declared.Outcome.{Outcome}
use Rattle.plan.specs.Answer as plan
use Rattle.demands.specs.Listed.{listed_of, row_room, row_of}
use Rattle.answers.specs.Four.{read_numbers}
use Rattle.numbers.specs.Numbers.{count_numbers, plan_numbers, demands_numbers}

-- The bytes are a table with n clocks, L steps and g guards.
pub record IsTable (bytes : List ℕ) (n L g : ℕ) : Type 0 where
  pub small : Bytes bytes
  pub accepted : read_of bytes ≡ read.Counted n L g

-- ---- a are the numbers that a question answers, put to these bytes, for a variant of the start
abbrev pub ReadSays : List ℕ → List ℕ → Type 0
ReadSays bytes a = a ≡ read_numbers (read_of bytes)

pub record RoundsSays (bytes : List ℕ) (v : Start) (a : List ℕ) : Type 0 where
  pub count : Count
  pub answers : rounds.Answers (read_of bytes) bytes v count
  pub numbers : a ≡ count_numbers count

-- the rooms for times, starts and a loop are left so, too
pub record PlanSays (bytes : List ℕ) (v : Start) (k : ℕ) (before after : plan.Rooms) (a : List ℕ) : Type 0 where
  pub outcome : Outcome
  pub answers : plan.Answers bytes v k before after outcome
  pub numbers : a ≡ plan_numbers outcome

-- and the row
pub record DemandsSays (bytes : List ℕ) (v : Start) (k : ℕ) (before after : List ℤ) (a : List ℕ) : Type 0 where
  pub numbers : a ≡ demands_numbers (listed_of bytes v k (row_room before))
  pub row : after ≡ row_of bytes v k (row_room before) before

-- ---- what the numbers say
-- no refusal
abbrev pub NotRefused : List ℕ → Type 0
NotRefused a = get_or a 0 0 ≡ 0

-- "rounds": without end, or at least k
abbrev pub AllowsRounds : List ℕ → ℕ → Type 0
AllowsRounds a k = NotRefused a × ((get_or a 1 0 ≡ 1) ⊎ ((get_or a 1 0 ≡ 0) × (k ≤ get_or a 2 0)))

-- "plan": a plan, in so many parts to a tick
abbrev pub GivesPlan : List ℕ → ℕ → Type 0
GivesPlan a P = NotRefused a × (get_or a 1 0 ≡ 0) × (get_or a 2 0 ≡ P)

-- "plan": a loop of so many moments, and they stand in the first places of the loop room
abbrev pub GivesLoop : List ℕ → Start → ℕ → plan.Rooms → List ℕ → Type 0
GivesLoop bytes v k after a = NotRefused a × (get_or a 1 0 ≡ 1) × Loop (demands_in bytes v k) (take (get_or a 2 0) after.loop)
