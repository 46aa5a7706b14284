-- Scans at some counters, given singly, one after the other.
use Rattle.std.specs.Prelude.{List, [], ◌∷◌, map, ℕ, suc}
use Rattle.scans.specs.declared.Running.{Running}
use Rattle.scans.specs.declared.Scanned.{Scanned}
use Rattle.scans.specs.declared.Verdict.{Verdict}
use Rattle.scans.specs.declared.Verdict.TheVariants.{Accepted, TurnedAway, Refused}

-- by what one scan gives
module _ (scan : Running → ℕ → Scanned) where
  -- their verdicts, in their order
  unfoldable pub verdicts_by : Running → List ℕ → List Verdict
  verdicts_by r [] = []
  verdicts_by r (c ∷ cs) = (scan r c).verdict ∷ verdicts_by (scan r c).running cs

  -- the record after them
  unfoldable pub running_by : Running → List ℕ → Running
  running_by r [] = r
  running_by r (c ∷ cs) = running_by (scan r c).running cs

-- a verdict as a number: 0 where a scan is accepted, else the number of the guard (01: bound) that turned it away; no scan of a tray that is
-- given is refused
abbrev pub verdict_number : Verdict → ℕ
verdict_number Accepted = 0
verdict_number (TurnedAway b) = b
verdict_number (Refused f) = 0

-- the row of verdicts
abbrev pub verdict_row : List Verdict → List ℕ
verdict_row vs = map verdict_number vs

-- how many are accepted
unfoldable pub accepted_in : List Verdict → ℕ
accepted_in [] = 0
accepted_in (Accepted ∷ vs) = suc (accepted_in vs)
accepted_in (TurnedAway b ∷ vs) = accepted_in vs
accepted_in (Refused f ∷ vs) = accepted_in vs
