-- The demands' row where the answer room is short, and where it is not.
use Rattle.std.specs.Prelude.{◌≡◌, cond, List, ℕ, ◌≤◌, ◌<◌, ℤ, length}
use Rattle.std.proofs.Common.{ap}
use Rattle.runs.specs.declared.Start.{Start}
use Rattle.demands.specs.Listed.{row_of, row_room}
use Rattle.answers.specs.Answered.{short, roomy_yes}
use Rattle.judge.specs.Room.{listed_row}

pub row_short : (room bytes : List ℕ) (v : Start) (k : ℕ) (row : List ℤ) → length room < 4 → row ≡ listed_row room bytes v k row
unfolding listed_row
row_short room bytes v k row h = ap (λ b. cond b (row_of bytes v k (row_room row) row) row) (short room h)

pub row_roomy : (room bytes : List ℕ) (v : Start) (k : ℕ) (row : List ℤ) → 4 ≤ length room
    → row_of bytes v k (row_room row) row ≡ listed_row room bytes v k row
unfolding listed_row
row_roomy room bytes v k row h = ap (λ b. cond b (row_of bytes v k (row_room row) row) row) (roomy_yes room h)
