-- The answer room of the entry "rounds" is determined.
use Rattle.std.specs.Prelude.{◌≡◌, Bool, true, false, List, ℕ}
use Rattle.std.proofs.Common.{sym, ap, ◌∙◌}
use Rattle.wire.specs.Reading.{read_of}
use Rattle.runs.specs.declared.Start.{Start}
use Rattle.rounds.specs.One.{rounds_answer_one}
use Rattle.numbers.specs.Numbers.{count_numbers}
use Rattle.answers.specs.Answered.{answered}
use Rattle.judge.specs.Room.{RoundsTold}

pub rounds_told_one : (roomy : Bool) (bytes : List ℕ) (v : Start) (room a b : List ℕ)
    → RoundsTold roomy bytes v room a → RoundsTold roomy bytes v room b → a ≡ b
rounds_told_one true bytes v room a b p q =
    p.numbers
    ∙ ap (λ c. answered room (count_numbers c)) (rounds_answer_one (read_of bytes) bytes v p.count q.count p.answers q.answers)
    ∙ sym q.numbers
rounds_told_one false bytes v room a b p q = p ∙ sym q
