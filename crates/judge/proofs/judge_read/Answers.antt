-- A short room is kept; the answer is the reader's.
use mathlib.Core.Path.{ap, ◌∙◌}
use Prim.Native.Nat.{◌≤◌, ◌<◌}
use native.Mathlib.Omega.{arith}
use lib.ListN.{length}
use Rattle.answers.specs.Four.{read_numbers}
use Rattle.answers.specs.Answered.{answered}
use Rattle.answers.specs.Answered.{short, roomy_yes, answered_short}
use borrow.Author.Rules.{rules}
use Rattle.judge.proofs.judge_read.Goals as goal
use Rattle.judge.proofs.judge_read.Goals.{Else-answer-lt-PLACES, Then-answer-lt-PLACES}

few : (c : Then-answer-lt-PLACES) → length c.args.answer.now < 4
few c = omega (arith, c.if-answer-lt-PLACES.true)

enough : (c : Else-answer-lt-PLACES) → 4 ≤ length c.args.answer.now
enough c = omega (arith, c.if-answer-lt-PLACES.false)

pub returns-then-answer-lt-PLACES : goal.returns-then-answer-lt-PLACES
returns-then-answer-lt-PLACES c = (short c.args.answer.now (few (goal.at.returns-then-answer-lt-PLACES c).Then-answer-lt-PLACES), answered_short _ _ (few (goal.at.returns-then-answer-lt-PLACES c).Then-answer-lt-PLACES))

pub returns : goal.returns
returns c =
    let room = c.args.answer.now in (
      roomy_yes room (enough (goal.at.returns c).Else-answer-lt-PLACES),
      c.put.ensures ∙ ap (answered room) (c.read_numbers-numbers.ensures ∙ ap read_numbers c.read.ensures),
    )
