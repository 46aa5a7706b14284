-- What the entries leave in the rooms lent to them.
use Rattle.std.specs.Prelude.{◌≡◌, Bool, true, false, cond, List, ℕ, ℤ}
use Rattle.wire.specs.Reading.{read_of}
use Rattle.runs.specs.declared.Start.{Start}
use Rattle.rounds.specs.declared.Count.{Count}
use Rattle.rounds.specs.Answer as rounds
use Rattle.plan.specs.declared.Outcome.{Outcome}
use Rattle.plan.specs.Answer as plan
use Rattle.demands.specs.Listed.{row_of, row_room}
use Rattle.numbers.specs.Numbers.{count_numbers, plan_numbers}
use Rattle.answers.specs.Answered.{roomy, answered}

-- the demands' row at exit, which is kept where the answer room is short
unfoldable pub listed_row : List ℕ → List ℕ → Start → ℕ → List ℤ → List ℤ
listed_row room bytes v k row = cond (roomy room) (row_of bytes v k (row_room row) row) row

-- The answer room before and after the question "rounds": the numbers of the count of these bytes.
pub record RoundsAnswered (bytes : List ℕ) (v : Start) (room room' : List ℕ) : Type 0 where
  pub count : Count
  pub answers : rounds.Answers (read_of bytes) bytes v count
  pub numbers : room' ≡ answered room (count_numbers count)

-- The same where it may be short, and then nothing changes.
abbrev pub RoundsTold : Bool → List ℕ → Start → List ℕ → List ℕ → Type 0
RoundsTold true bytes v room room' = RoundsAnswered bytes v room room'
RoundsTold false bytes v room room' = room' ≡ room

-- The rooms before and after the question "plan for k": an answer of these bytes, and its numbers.
pub record PlanAnswered (bytes : List ℕ) (v : Start) (k : ℕ) (r r' : plan.Rooms) (room room' : List ℕ) : Type 0 where
  pub outcome : Outcome
  pub answers : plan.Answers bytes v k r r' outcome
  pub numbers : room' ≡ answered room (plan_numbers outcome)

-- The same where the answer room may be short, and then nothing changes.
abbrev pub PlanTold : Bool → List ℕ → Start → ℕ → plan.Rooms → plan.Rooms → List ℕ → List ℕ → Type 0
PlanTold true bytes v k r r' room room' = PlanAnswered bytes v k r r' room room'
PlanTold false bytes v k r r' room room' = (r' ≡ r) × (room' ≡ room)
