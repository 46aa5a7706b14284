-- What a scan gives for a table's bytes: 02's order of refusals, and then one scan.
use Rattle.std.specs.Prelude.{cond, List, ℕ}
use Rattle.table.specs.Refusal.{placeless}
use Rattle.table.specs.declared.Fault.TheVariants as fault
use Rattle.table.specs.declared.Read.{Read}
use Rattle.table.specs.declared.Read.TheVariants as read
use Rattle.table.specs.declared.Refusal.{Refusal}
use Rattle.wire.specs.Reading.{read_of}
use Rattle.asking.specs.Rounds.{cycle_of}
use Rattle.scans.specs.declared.Running.{Running}
use Rattle.scans.specs.declared.Scanned.{Scanned}
use Rattle.scans.specs.declared.Verdict.TheVariants.{Refused}
use Rattle.scans.specs.Scan.{fits, scanned}

-- refused, and the record is as it was given
abbrev pub refused_with : Running → Refusal → Scanned
refused_with r f = record { verdict = Refused f; running = r }

-- by bytes that are accepted: 17, at place 0, for a record that the table cannot go on from; every other scan is judged
abbrev pub judged_by : List ℕ → ℕ → ℕ → Running → ℕ → Scanned
judged_by bytes n L r counter =
    cond (fits n L r)
    (scanned (cycle_of bytes) n r counter)
    (refused_with r (placeless fault.Record))

-- the table's own faults come first
abbrev pub answered_by : List ℕ → Running → ℕ → Read → Scanned
answered_by bytes r counter (read.Refused f) = refused_with r f
answered_by bytes r counter (read.Counted n L g) = judged_by bytes n L r counter

unfoldable pub scan_of : List ℕ → Running → ℕ → Scanned
scan_of bytes r counter = answered_by bytes r counter (read_of bytes)
