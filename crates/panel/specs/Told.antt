-- What the entries give, and leave in the rooms lent to them.
use Rattle.std.specs.Prelude.{◌≡◌, Bool, true, false, List, ℕ}
use Rattle.answers.specs.Answered.{answered}
use Rattle.windows.specs.declared.Panel.{Panel}
use Rattle.windows.specs.Answer as windows
use Rattle.widest.specs.declared.Answer.{Answer}
use Rattle.widest.specs.Answer as widest
use Rattle.panel.specs.declared.WidestAnswer.{WidestAnswer}
use Rattle.panel.specs.Numbers.{panel_numbers, widest_numbers}

-- The rooms before and after the question "windows of k rounds": an answer of these bytes, and its numbers.
pub record WindowsAnswered (bytes : List ℕ) (k : ℕ) (r r' : windows.Rooms) (room room' : List ℕ) : Type 0 where
  pub outcome : Panel
  pub answers : windows.Answers bytes k r r' outcome
  pub numbers : room' ≡ answered room (panel_numbers outcome)

-- The same where the answer room may be short, and then nothing changes.
abbrev pub WindowsTold : Bool → List ℕ → ℕ → windows.Rooms → windows.Rooms → List ℕ → List ℕ → Type 0
WindowsTold true bytes k r r' room room' = WindowsAnswered bytes k r r' room room'
WindowsTold false bytes k r r' room room' = (r' ≡ r) × (room' ≡ room)

-- What the question "widest window of k rounds" gives: an answer of these bytes, and its numbers.
pub record WidestTold (bytes : List ℕ) (k : ℕ) (w : WidestAnswer) : Type 0 where
  pub outcome : Answer
  pub answers : widest.Answers bytes k outcome
  pub numbers : w ≡ widest_numbers outcome
