-- What the entry gives, and leaves in the rooms lent to it.
use Rattle.std.specs.Prelude.{◌≡◌, Bool, List, ℕ, length}
use Rattle.std.proofs.Math.Path.{ap}
use Rattle.std.proofs.Math.Bool.{cond}
use Rattle.answers.specs.Four.{four, refused_numbers}
use Rattle.answers.specs.Answered.{answered}
use Rattle.rows.specs.Row.{record_in, with_record}
use Rattle.rows.specs.Asked.{asked}
use Rattle.trays.specs.declared.Outcome.{Outcome}
use Rattle.trays.specs.declared.Outcome.TheVariants.{Counted, Refused}
use Rattle.trays.specs.Answer.{outcome_of, running_of, verdicts_of}

-- the four numbers of an outcome: the number accepted
abbrev pub outcome_numbers : Outcome → List ℕ
outcome_numbers (Counted m) = four 0 m 0 0
outcome_numbers (Refused f) = refused_numbers f

module _ (bytes counters row verdicts room : List ℕ) where
  -- the record's row, the verdicts and the answer, when they are asked for
  abbrev row_told : List ℕ
  row_told = with_record row (running_of bytes (record_in row) counters (length verdicts))

  abbrev verdicts_told : List ℕ
  verdicts_told = verdicts_of bytes (record_in row) counters verdicts

  abbrev answer_told : List ℕ
  answer_told = answered room (outcome_numbers (outcome_of bytes (record_in row) counters (length verdicts)))

  -- the three rooms at exit
  unfoldable pub running_after : List ℕ
  running_after = cond (asked row room) row_told row

  unfoldable pub verdicts_after : List ℕ
  verdicts_after = cond (asked row room) verdicts_told verdicts

  unfoldable pub answer_after : List ℕ
  answer_after = cond (asked row room) answer_told room

  -- by whether the record's row and the answer room are long enough
  pub rooms_left : (b : Bool) → b ≡ asked row room
      → (cond b row_told row ≡ running_after) × (cond b verdicts_told verdicts ≡ verdicts_after) × (cond b answer_told room ≡ answer_after)
  unfolding running_after verdicts_after answer_after
  rooms_left b e = (ap (λ b. cond b row_told row) e, ap (λ b. cond b verdicts_told verdicts) e, ap (λ b. cond b answer_told room) e)
