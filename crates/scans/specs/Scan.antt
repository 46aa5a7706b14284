-- What log-in and one scan make of a running record, by the steps of a table.
use Rattle.std.specs.Prelude.{Bool, true, cond, ◌&&◌, List, [], ◌∷◌, ℕ, zero, suc, ◌+◌, ◌-◌, eqb, ltb, leb, length, get_or, replicate}
use Rattle.table.specs.Step.{Step, resets}
use Rattle.table.specs.declared.Guard.{Guard}
use Rattle.table.specs.declared.Relation.{Relation}
use Rattle.table.specs.declared.Relation.TheVariants.{Under, AtMost, Exactly, AtLeast, Over}
use Rattle.basics.specs.Tab.{tab}
use Rattle.ticks.specs.Ticks.{elapsed_of, later_of}
use Rattle.scans.specs.declared.Running.{Running}
use Rattle.scans.specs.declared.Scanned.{Scanned}
use Rattle.scans.specs.declared.Verdict.TheVariants.{Accepted, TurnedAway}

-- at log-in: step 1, readings 0, and log-in's own counter
abbrev pub log_in : ℕ → Running
log_in counter = record { step = 1; readings = replicate 6 0; counter = counter }

-- ---- readings, six of them, the first for clock 1

-- those of clocks 1 to n some ticks later; the others are kept
unfoldable pub aged : ℕ → ℕ → List ℕ → List ℕ
aged n ticks r = tab (λ i. cond (ltb i n) (later_of (get_or r i 0) ticks) (get_or r i 0)) 6

-- whether a reading stands to a constant as a relation says
abbrev pub compares : Relation → ℕ → ℕ → Bool
compares Under constant reading = ltb reading constant
compares AtMost constant reading = leb reading constant
compares Exactly constant reading = eqb reading constant
compares AtLeast constant reading = leb constant reading
compares Over constant reading = ltb constant reading

-- so whether a guard (01: bound) of one clock holds; a scan judges no others
abbrev pub holds : Guard → List ℕ → Bool
holds g r = compares g.relation g.constant (get_or r (g.clock - 1) 0)

-- the number of the first guard that does not hold, after m others; 0 where all hold
unfoldable pub first_failing : ℕ → List Guard → List ℕ → ℕ
first_failing m [] r = 0
first_failing m (g ∷ gs) r = cond (holds g r) (first_failing (suc m) gs r) (suc m)

-- the resets (01: zeroings) of a step take place
unfoldable pub cleared : Step → List ℕ → List ℕ
cleared s r = tab (λ i. cond (resets s (i + 1)) 0 (get_or r i 0)) 6

-- ---- one scan

-- the step that is due: step i of a table, from 1
abbrev pub due : List Step → ℕ → Step
due σ i = get_or σ (i - 1) (record { guards = []; flags = [] })

-- the step after it: 1 after the last
abbrev pub following : ℕ → ℕ → ℕ
following steps i = cond (eqb i steps) 1 (i + 1)

-- Every guard of the step has been tested on the readings: accepted where none failed, and then its resets take place, and the counter
-- is the new one; else turned away by the first that failed, and the record stays.
abbrev pub decided : List Step → Running → ℕ → List ℕ → ℕ → Scanned
decided σ r counter readings zero =
    record {
      verdict = Accepted;
      running = record {
        step = following (length σ) r.step;
        readings = cleared (due σ r.step) readings;
        counter = counter;
      };
    }
decided σ r counter readings (suc b) = record { verdict = TurnedAway (suc b); running = r }

-- the next step tested on some readings
abbrev pub tested : List Step → Running → ℕ → List ℕ → Scanned
tested σ r counter readings = decided σ r counter readings (first_failing 0 (due σ r.step).guards readings)

-- A scan at a counter, in a table with the steps σ and n clocks: the readings have aged by the elapsed ticks, and the next step is tested.
unfoldable pub scanned : List Step → ℕ → Running → ℕ → Scanned
scanned σ n r counter = tested σ r counter (aged n (elapsed_of r.counter counter) r.readings)

-- ---- records that a table can go on from

-- the readings of clocks 1 to n are at most 4,001
unfoldable pub held_all : ℕ → List ℕ → Bool
held_all zero r = true
held_all (suc n) r = held_all n r && leb (get_or r n 0) 4001

-- the step is 1 to L, and the readings of the n clocks are at most 4,001
unfoldable pub fits : ℕ → ℕ → Running → Bool
fits n L r = (leb 1 r.step && leb r.step L) && held_all n r.readings
