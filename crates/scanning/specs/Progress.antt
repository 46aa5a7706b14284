-- What is found of a step while a table is read, and what a scan comes to by it.
use Rattle.std.specs.Prelude.{Bool, cond, List, [], ◌∷◌, ℕ, ◌+◌, ◌-◌, eqb, ltb, get_or}
use Rattle.basics.specs.Tab.{tab}
use Rattle.table.specs.Refusal.{placeless}
use Rattle.table.specs.declared.Fault.TheVariants as fault
use Rattle.table.specs.declared.Guard.{Guard}
use Rattle.records.specs.declared.Tally.{Tally}
use Rattle.records.specs.declared.Verdict.TheVariants.{Refused, Next, Last}
use Rattle.records.specs.Rules.{is_free}
use Rattle.wire.specs.Records.{Record, records_at}
use Rattle.records.specs.Checking.{start}
use Rattle.wire.specs.Reading.{judge_of}
use Rattle.wire.specs.Listing.{guard, reset, Content, head, entry, finish, close, content_of}
use Rattle.ticks.specs.Ticks.{later_of}
use Rattle.scans.specs.declared.Running.{Running}
use Rattle.scans.specs.declared.Scanned.{Scanned}
use Rattle.scans.specs.declared.Verdict.TheVariants.{Accepted, TurnedAway}
use Rattle.scans.specs.Scan.{compares, following, fits}
use Rattle.scans.specs.Answer.{refused_with}
use Rattle.scanning.specs.declared.Progress.{Progress}

-- whether a guard holds of readings so many ticks later, which are not held at 4,001 here
unfoldable pub meets : List ℕ → ℕ → Guard → Bool
meets readings ticks g = compares g.relation g.constant (get_or readings (g.clock - 1) 0 + ticks)

-- before the first record, when a step is asked for
abbrev pub started : ℕ → Progress
started step = record { on = eqb step 1; first = 0; failing = 0; resets = 0 }

-- the first guard that fails is noted, by its number in the table
unfoldable pub failed : Progress → ℕ → Progress
failed p number =
    cond (eqb p.failing 0) (record { on = p.on; first = p.first; failing = number; resets = p.resets }) p

-- a guard is tested if its step is the one asked for
unfoldable pub guard_tested : List ℕ → ℕ → Tally → Progress → Guard → Progress
guard_tested readings ticks t p g = cond p.on (cond (meets readings ticks g) p (failed p (t.guards + 1))) p

-- after a step: its resets are noted if it is the one asked for, and the guards by then if the next one is
unfoldable pub step_finished : ℕ → Tally → Progress → Progress
step_finished step t p =
    record {
      on = eqb (t.steps + 2) step;
      first = cond (eqb (t.steps + 2) step) t.guards p.first;
      failing = p.failing;
      resets = cond p.on t.pending p.resets;
    }

-- a record, by its content, after those that a tally counts
abbrev pub noted : ℕ → List ℕ → ℕ → Tally → Progress → Content → Progress
noted step readings ticks t p (head n) = p
noted step readings ticks t p (entry (guard g)) = guard_tested readings ticks t p g
noted step readings ticks t p (entry (reset j)) = p
noted step readings ticks t p finish = step_finished step t p
noted step readings ticks t p close = p

-- the records from the left, up to the end or the first fault
unfoldable pub followed : ℕ → List ℕ → ℕ → Tally → Progress → List Record → Progress
followed step readings ticks t p [] = p
followed step readings ticks t p (r ∷ rs) =
    elim (judge_of t r) [
      | Refused f ↦ p
      | Next u ↦ followed step readings ticks u (noted step readings ticks t p (content_of r)) rs
      | Last ↦ p
    ]

unfoldable pub progress_of : ℕ → List ℕ → ℕ → List ℕ → Progress
progress_of step readings ticks bytes = followed step readings ticks start (started step) (records_at bytes 0)

-- ---- the scan

-- the readings of clocks 1 to n so many ticks later, or 0 where they are reset; the others are kept
unfoldable pub settled : ℕ → ℕ → ℕ → List ℕ → List ℕ
settled n ticks resets r =
    tab (λ i. cond (ltb i n) (cond (is_free resets (i + 1)) (later_of (get_or r i 0) ticks) 0) (get_or r i 0)) 6

abbrev pub accepted_by : ℕ → ℕ → ℕ → ℕ → Running → ℕ → Scanned
accepted_by resets n ticks L r counter =
    record {
      verdict = Accepted;
      running = record { step = following L r.step; readings = settled n ticks resets r.readings; counter = counter };
    }

unfoldable pub decided_by : Progress → ℕ → ℕ → ℕ → Running → ℕ → Scanned
decided_by p n ticks L r counter =
    cond (eqb p.failing 0)
    (accepted_by p.resets n ticks L r counter)
    (record { verdict = TurnedAway (p.failing - p.first); running = r })

abbrev pub concluded_by : Progress → ℕ → ℕ → ℕ → Running → ℕ → Scanned
concluded_by p n ticks L r counter =
    cond (fits n L r)
    (decided_by p n ticks L r counter)
    (refused_with r (placeless fault.Record))
