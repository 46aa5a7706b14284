-- What a tray of scans gives for a table's bytes: 02's order of refusals, and then the scans, as if given singly.
use Rattle.std.specs.Prelude.{Bool, cond, List, ◌++◌, ℕ, leb, length, drop}
use Rattle.table.specs.Refusal.{placeless}
use Rattle.table.specs.declared.Fault.{Fault}
use Rattle.table.specs.declared.Fault.TheVariants as fault
use Rattle.table.specs.declared.Read.{Read}
use Rattle.table.specs.declared.Read.TheVariants as read
use Rattle.wire.specs.Reading.{read_of}
use Rattle.scans.specs.declared.Running.{Running}
use Rattle.scans.specs.declared.Scanned.{Scanned}
use Rattle.scans.specs.Scan.{fits}
use Rattle.scans.specs.Answer.{scan_of}
use Rattle.trays.specs.declared.Outcome.{Outcome}
use Rattle.trays.specs.declared.Outcome.TheVariants.{Counted, Refused}
use Rattle.trays.specs.Tray.{verdicts_by, running_by, verdict_row, accepted_in}

-- a test, and the fault where it fails, at place 0
abbrev pub or_else : Bool → Fault → Outcome → Outcome
or_else b f o = cond b o (Refused (placeless f))

-- The tests of a tray of some counters, and of a room for so many verdicts, by a table that is accepted: 17 for a record that the table cannot
-- go on from, 18 for more than 256 counters, 19 for a room with fewer places than counters.
abbrev pub admitted : ℕ → ℕ → Running → List ℕ → ℕ → Outcome → Outcome
admitted n L r counters places o =
    or_else (fits n L r) fault.Record
    (or_else (leb (length counters) 256) fault.Tray
    (or_else (leb (length counters) places) fault.Verdicts
    o))

-- and then how many scans are accepted, by what one scan gives
abbrev pub counted_by : (Running → ℕ → Scanned) → ℕ → ℕ → Running → List ℕ → ℕ → Outcome
counted_by scan n L r counters places = admitted n L r counters places (Counted (accepted_in (verdicts_by scan r counters)))

-- the table's own faults come first
abbrev pub outcome_by : List ℕ → Running → List ℕ → ℕ → Read → Outcome
outcome_by bytes r counters places (read.Refused f) = Refused f
outcome_by bytes r counters places (read.Counted n L g) = counted_by (scan_of bytes) n L r counters places

unfoldable pub outcome_of : List ℕ → Running → List ℕ → ℕ → Outcome
outcome_of bytes r counters places = outcome_by bytes r counters places (read_of bytes)

-- ---- the record and the room after a tray: a refusal changes neither

abbrev pub unless : {A : Type 0} → Outcome → A → A → A
unless (Refused f) was is = was
unless (Counted m) was is = is

unfoldable pub running_of : List ℕ → Running → List ℕ → ℕ → Running
running_of bytes r counters places = unless (outcome_of bytes r counters places) r (running_by (scan_of bytes) r counters)

-- the verdicts stand in the first places, and the others are kept
unfoldable pub verdicts_of : List ℕ → Running → List ℕ → List ℕ → List ℕ
verdicts_of bytes r counters room =
    unless (outcome_of bytes r counters (length room)) room
    (verdict_row (verdicts_by (scan_of bytes) r counters) ++ drop (length counters) room)
