-- A shift: log-in, and any number of scans after it, by their true times.
use Rattle.std.specs.Prelude.{List, [], ◌∷◌, ◌++◌, ℕ, zero, suc, ◌+◌, ◌≤◌, ◌<◌}
use Rattle.ticks.specs.Ticks.{counter_at}
use Rattle.scans.specs.declared.Running.{Running}
use Rattle.scans.specs.declared.Scanned.{Scanned}
use Rattle.scans.specs.declared.Verdict.{Verdict}
use Rattle.scans.specs.declared.Verdict.TheVariants.{Accepted, TurnedAway, Refused}
use Rattle.scans.specs.Scan.{log_in}
use Rattle.scans.specs.Answer.{scan_of}

-- How far a shift has come: the running record, and the true times of the scans accepted so far, in their order. True times are in
-- ticks since log-in, and never start again.
pub record Shift : Type 0 where
  pub running : Running
  pub times : List ℕ

-- the time of the last accepted scan, or of log-in
unfoldable pub last_time : List ℕ → ℕ
last_time [] = 0
last_time (t ∷ []) = t
last_time (t ∷ u ∷ ts) = last_time (u ∷ ts)

-- The premise at a scan: it is not before the last accepted one, or log-in, and fewer than 65,536 ticks after it.
pub record Near (times : List ℕ) (t : ℕ) : Type 0 where
  pub later : last_time times ≤ t
  pub soon : t < last_time times + 65536

-- the times accepted, with one more scan
abbrev pub times_with : Verdict → List ℕ → ℕ → List ℕ
times_with Accepted times t = times ++ (t ∷ [])
times_with (TurnedAway b) times t = times
times_with (Refused f) times t = times

-- A table's bytes, and log-in's own counter.
module _ (bytes : List ℕ) (first : ℕ) where
  -- log-in
  abbrev pub begun : Shift
  begun = record { running = log_in first; times = [] }

  -- what a scan at a true time gives, when the rail's counter shows that time on its circle
  abbrev pub scan_at : Shift → ℕ → Scanned
  scan_at s t = scan_of bytes s.running (counter_at first t)

  -- the shift after it
  unfoldable pub gone_on : Shift → ℕ → Shift
  gone_on s t =
      record { running = (scan_at s t).running; times = times_with (scan_at s t).verdict s.times t }

  -- the shift after scans at these times
  unfoldable pub shift_from : Shift → List ℕ → Shift
  shift_from s [] = s
  shift_from s (t ∷ ts) = shift_from (gone_on s t) ts

  -- the premise holds at each of them
  pub data AllNear : Shift → List ℕ → Type 0 where
    none : {s : Shift} → AllNear s []
    more : {s : Shift} {t : ℕ} {ts : List ℕ} → Near s.times t → AllNear (gone_on s t) ts → AllNear s (t ∷ ts)
