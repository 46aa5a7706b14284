-- The rooms of a question about a running record: the record's row, and the answer room.
use Rattle.std.specs.Prelude.{◌≡◌, Bool, true, false, ◌&&◌, List, ℕ, ◌≤◌, ◌<◌, length}
use Rattle.std.proofs.Common.{ap}
use Rattle.answers.specs.Answered.{roomy, short, roomy_yes}
use Rattle.rows.specs.Row.{holds_record, row_short, row_long}

-- whether both are long enough to ask
abbrev pub asked : List ℕ → List ℕ → Bool
asked row room = holds_record row && roomy room

-- a room that is short, whichever it is
pub asked_row : (row room : List ℕ) → length row < 8 → false ≡ asked row room
asked_row row room h = ap (λ b. b && roomy room) (row_short row h)

pub asked_room : (row room : List ℕ) → 8 ≤ length row → length room < 4 → false ≡ asked row room
asked_room row room h l = λ i. row_long row h i && short room l i

pub asked_both : (row room : List ℕ) → 8 ≤ length row → 4 ≤ length room → true ≡ asked row room
asked_both row room h l = λ i. row_long row h i && roomy_yes room l i
