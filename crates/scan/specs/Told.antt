-- What the entries give, and leave in the rooms lent to them.
use Rattle.std.specs.Prelude.{◌≡◌, Bool, List, ℕ}
use Rattle.std.proofs.Math.Path.{ap}
use Rattle.std.proofs.Math.Bool.{cond}
use Rattle.answers.specs.Four.{four, refused_numbers}
use Rattle.answers.specs.Answered.{answered}
use Rattle.scans.specs.declared.Scanned.{Scanned}
use Rattle.scans.specs.declared.Verdict.{Verdict}
use Rattle.scans.specs.declared.Verdict.TheVariants.{Accepted, TurnedAway, Refused}
use Rattle.scans.specs.Answer.{scan_of}
use Rattle.rows.specs.Row.{record_in, with_record}
use Rattle.rows.specs.Asked.{asked}

-- the four numbers of a verdict: turned away, the number of the guard
abbrev pub verdict_numbers : Verdict → List ℕ
verdict_numbers Accepted = four 0 0 0 0
verdict_numbers (TurnedAway b) = four 0 b 0 0
verdict_numbers (Refused f) = refused_numbers f

-- the scan of the record that a row holds
abbrev pub scan_in : List ℕ → ℕ → List ℕ → Scanned
scan_in bytes counter row = scan_of bytes (record_in row) counter

-- the record's row and the answer room at exit
unfoldable pub running_after : List ℕ → ℕ → List ℕ → List ℕ → List ℕ
running_after bytes counter row room = cond (asked row room) (with_record row (scan_in bytes counter row).running) row

unfoldable pub answer_after : List ℕ → ℕ → List ℕ → List ℕ → List ℕ
answer_after bytes counter row room = cond (asked row room) (answered room (verdict_numbers (scan_in bytes counter row).verdict)) room

-- ---- laws

-- both rooms at exit, by whether they are long enough
module _ (bytes : List ℕ) (counter : ℕ) (row room : List ℕ) (b : Bool) (e : b ≡ asked row room) where
  pub running_left : cond b (with_record row (scan_in bytes counter row).running) row ≡ running_after bytes counter row room
  unfolding running_after
  running_left = ap (λ b. cond b (with_record row (scan_in bytes counter row).running) row) e

  pub answer_left : cond b (answered room (verdict_numbers (scan_in bytes counter row).verdict)) room ≡ answer_after bytes counter row room
  unfolding answer_after
  answer_left = ap (λ b. cond b (answered room (verdict_numbers (scan_in bytes counter row).verdict)) room) e
