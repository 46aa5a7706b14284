-- A shift in which scans are handed over singly and in trays, in any mixture.
use Rattle.std.specs.Prelude.{cond, ◌&&◌, List, [], ◌∷◌, ◌++◌, map, ℕ, zero, suc, ◌≤◌, ◌<◌, leb, length}
use Rattle.ticks.specs.Ticks.{counter_at}
use Rattle.trays.specs.Answer.{outcome_of, running_of, verdicts_of, unless}
use Rattle.shifts.specs.Shift.{Shift, begun, gone_on, AllNear}
use Rattle.shifts.specs.Sound.{Sound}

-- What a terminal hands over: a scan at a true time; or scans at some true times, with a room for their verdicts.
pub data Handed : Type 0 where
  single : ℕ → Handed
  tray : List ℕ → List ℕ → Handed

-- A tray that is not refused for its own sake: it has at most 256 scans, and the room has a place for each.
abbrev pub Fitting : List ℕ → List ℕ → Type 0
Fitting ts room = (length ts ≤ 256) × (length ts ≤ length room)

-- the scans of such a tray; a tray that is refused has none
abbrev pub times_given : List ℕ → List ℕ → List ℕ
times_given ts room = cond (leb (length ts) 256 && leb (length ts) (length room)) ts []

-- the times of all scans, in their order
unfoldable pub times_in : List Handed → List ℕ
times_in [] = []
times_in (single t ∷ hs) = t ∷ times_in hs
times_in (tray ts room ∷ hs) = times_given ts room ++ times_in hs

-- those of a tray that are accepted, by the row of verdicts
unfoldable pub times_accepted : List ℕ → List ℕ → List ℕ
times_accepted row [] = []
times_accepted [] (t ∷ ts) = []
times_accepted (zero ∷ row) (t ∷ ts) = t ∷ times_accepted row ts
times_accepted (suc b ∷ row) (t ∷ ts) = times_accepted row ts

-- A table's bytes, and log-in's own counter.
module _ (bytes : List ℕ) (first : ℕ) where
  -- the counters that the rail shows at some times
  abbrev pub counters_at : List ℕ → List ℕ
  counters_at ts = map (counter_at first) ts

  -- the shift after a tray, by what it gives: the record after it, and the verdicts in the room
  unfoldable pub tray_on : Shift → List ℕ → List ℕ → Shift
  tray_on s ts room =
      record {
        running = running_of bytes s.running (counters_at ts) (length room);
        times =
            unless (outcome_of bytes s.running (counters_at ts) (length room)) s.times
            (s.times ++ times_accepted (verdicts_of bytes s.running (counters_at ts) room) ts);
      }

  abbrev pub handed_on : Shift → Handed → Shift
  handed_on s (single t) = gone_on bytes first s t
  handed_on s (tray ts room) = tray_on s ts room

  -- the shift after all that is handed over
  unfoldable pub handed_from : Shift → List Handed → Shift
  handed_from s [] = s
  handed_from s (h ∷ hs) = handed_from (handed_on s h) hs

-- What is promised of every shift with trays: it is as sound as one of single scans, where the premise holds at each scan that is given, in a
-- tray or not.
abbrev pub PromiseHanded : List ℕ → Type 0
PromiseHanded bytes =
    (first : ℕ) → first < 65536 → (hs : List Handed) → AllNear bytes first (begun bytes first) (times_in hs)
    → Sound bytes first (handed_from bytes first (begun bytes first) hs)
