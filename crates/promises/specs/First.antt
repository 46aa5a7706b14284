-- The first promise: every bad table, bad number of rounds and short room is refused exactly as 01's table says; everything
-- else is answered.
use Rattle.std.specs.Prelude.{◌≡◌, Bool, true, cond, List, ℕ, ◌+◌, ◌*◌, ◌<◌, leb, ℤ, length, get_or}
use Rattle.table.specs.Refusal.{number_of, of_table}
use Rattle.table.specs.declared.Refusal.{Refusal}
use Rattle.table.specs.declared.Read.TheVariants as read
use Rattle.runs.specs.declared.Start.{Start}
use Rattle.wire.specs.Records.{Bytes}
use Rattle.wire.specs.Reading.{read_of}
use Rattle.wire.specs.Listing.{Listing}
use Rattle.format.specs.Encode.{encode, guard_count, Legal}
use Rattle.asking.specs.Admission.{in_range}
use Rattle.asking.specs.Rounds.{demands_in}
use Rattle.cells.specs.Lines.{cells, over}
use Rattle.plan.specs.Answer.{Rooms}
use Rattle.answers.specs.Four.{four, refused_numbers}
use Rattle.promises.specs.Told.{NotRefused, ReadSays, RoundsSays, PlanSays, DemandsSays}

-- the number of a row of 01's table, unless its test holds
abbrev pub row : ℕ → Bool → ℕ → ℕ
row number test rest = cond test rest number

-- The rows after the table, in 01's order: which refuses a plan for k rounds of n clocks and L steps, or 0.
abbrev pub plan_row : ℕ → ℕ → ℕ → Rooms → ℕ
plan_row n L k rooms =
    row 11 (in_range k L)
    (row 12 (leb (k * L) (length rooms.times))
    (row 13 (leb n (length rooms.starts))
    (row 14 (leb (k * L + n + 1) (length rooms.loop))
    0)))

-- The same for the demands of k rounds of L steps, which are `count`, with a row of so many places.
abbrev pub demands_row : ℕ → ℕ → ℕ → ℕ → ℕ
demands_row L k count room = row 11 (in_range k L) (row 15 (leb (4 * count) room) 0)

-- The numbers a tell of a row, with place 0, and `kept` holds; or of none, and then they are an answer.
pub record Refuses (number : ℕ) (kept : Type 0) (a : List ℕ) : Type 0 where
  pub first : get_or a 0 0 ≡ number
  pub refused : 0 < number → (a ≡ four number 0 0 0) × kept

-- All four questions, for every variant of the start, accept the bytes as a table with n clocks, L steps and g guards, and refuse
-- what the rows after it say.
pub record AcceptedBy (bytes : List ℕ) (n L g : ℕ) : Type 0 where
  pub read : (a : List ℕ) → ReadSays bytes a → a ≡ four 0 n L g
  pub rounds : (v : Start) (a : List ℕ) → RoundsSays bytes v a → NotRefused a
  pub plan : (v : Start) (k : ℕ) (before after : Rooms) (a : List ℕ) → PlanSays bytes v k before after a
      → Refuses (plan_row n L k before) (after ≡ before) a
  pub demands : (v : Start) (k : ℕ) (before after : List ℤ) (a : List ℕ) → DemandsSays bytes v k before after a
      → Refuses (demands_row L k (length (demands_in bytes v k)) (length before)) (after ≡ before) a
  -- where no row refuses them, the demands are answered by their number, and stand in the first places of the row
  pub demanded : (v : Start) (k : ℕ) (before after : List ℤ) (a : List ℕ) → DemandsSays bytes v k before after a
      → demands_row L k (length (demands_in bytes v k)) (length before) ≡ 0
      → (a ≡ four 0 (length (demands_in bytes v k)) 0 0) × (after ≡ over (cells (demands_in bytes v k)) before)

-- All four questions, for every variant, refuse the bytes for the same fault, of 01's rows 1 to 10 or row 16 (`read_of`), and change no room.
pub record RefusedBy (bytes : List ℕ) : Type 0 where
  pub fault : Refusal
  pub found : read_of bytes ≡ read.Refused fault
  pub number : of_table (number_of fault.fault) ≡ true
  pub read : (a : List ℕ) → ReadSays bytes a → a ≡ refused_numbers fault
  pub rounds : (v : Start) (a : List ℕ) → RoundsSays bytes v a → a ≡ refused_numbers fault
  pub plan : (v : Start) (k : ℕ) (before after : Rooms) (a : List ℕ) → PlanSays bytes v k before after a
      → (a ≡ refused_numbers fault) × (after ≡ before)
  pub demands : (v : Start) (k : ℕ) (before after : List ℤ) (a : List ℕ) → DemandsSays bytes v k before after a
      → (a ≡ refused_numbers fault) × (after ≡ before)

-- The bytes of every legal table are accepted, and all other bytes are refused. Which fault counts: format/specs/FirstFault.antt.
pub record First : Type 0 where
  pub legal : (l : Listing) → Legal l → AcceptedBy (encode l) l.clocks (length l.steps) (guard_count l.steps)
  pub other : (bytes : List ℕ) → Bytes bytes → ((l : Listing) → Legal l → encode l ≡ bytes → ⊥) → RefusedBy bytes
