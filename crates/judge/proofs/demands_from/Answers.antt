-- A short room is kept, and the row with it; the answer and the row are those of the question.
use mathlib.Core.Path.{ap, ◌∙◌}
use Prim.Native.Nat.{◌≤◌, ◌<◌}
use native.Mathlib.Omega.{arith}
use lib.ListN.{length}
use Rattle.numbers.specs.Numbers.{demands_numbers}
use Rattle.answers.specs.Answered.{answered}
use Rattle.answers.specs.Answered.{short, roomy_yes, answered_short}
use Rattle.judge.specs.Row.{row_short, row_roomy}
use borrow.Author.Rules.{rules}
use Rattle.judge.proofs.demands_from.Goals as goal
use Rattle.judge.proofs.demands_from.Goals.{Else-answer-lt-PLACES, Then-answer-lt-PLACES}

few : (c : Then-answer-lt-PLACES) → length c.args.answer.now < 4
few c = omega (arith, c.if-answer-lt-PLACES.true)

enough : (c : Else-answer-lt-PLACES) → 4 ≤ length c.args.answer.now
enough c = omega (arith, c.if-answer-lt-PLACES.false)

pub returns-then-answer-lt-PLACES : goal.returns-then-answer-lt-PLACES
returns-then-answer-lt-PLACES c = (short c.args.answer.now (few (goal.at.returns-then-answer-lt-PLACES c).Then-answer-lt-PLACES), answered_short _ _ (few (goal.at.returns-then-answer-lt-PLACES c).Then-answer-lt-PLACES), row_short _ _ _ _ _ (few (goal.at.returns-then-answer-lt-PLACES c).Then-answer-lt-PLACES))

pub returns : goal.returns
returns c =
    let args = c.args in
    let room = args.answer.now in (
      roomy_yes room (enough (goal.at.returns c).Else-answer-lt-PLACES),
      c.put.ensures ∙ ap (answered room) (c.demands_numbers-numbers.ensures ∙ ap demands_numbers c.demands.ensures.0),
      c.demands.ensures.1 ∙ row_roomy room args.table.now args.start args.k args.row.now (enough (goal.at.returns c).Else-answer-lt-PLACES),
    )
