-- A short room is kept, and the others with it; the answer is that of the question.
use mathlib.Core.Path.{refl, ap, ◌∙◌}
use Prim.Native.Nat.{◌≤◌, ◌<◌}
use native.Mathlib.Omega.{arith}
use lib.ListN.{length}
use borrow.Author.Rules.{rules}
use Rattle.answers.specs.Answered.{answered, short, roomy_yes}
use Rattle.panel.proofs.panel_windows.Goals as goal
use Rattle.panel.proofs.panel_windows.Goals.{Else-answer-lt-PLACES, Then-answer-lt-PLACES}

few : (c : Then-answer-lt-PLACES) → length c.args.answer.now < 4
few c = omega (arith, c.if-answer-lt-PLACES.true)

enough : (c : Else-answer-lt-PLACES) → 4 ≤ length c.args.answer.now
enough c = omega (arith, c.if-answer-lt-PLACES.false)

pub returns-then-answer-lt-PLACES : goal.returns-then-answer-lt-PLACES
returns-then-answer-lt-PLACES c = (short c.args.answer.now (few (goal.at.returns-then-answer-lt-PLACES c).Then-answer-lt-PLACES), (refl, refl))

pub returns : goal.returns
returns c =
    let room = c.args.answer.now in (
      roomy_yes room (enough (goal.at.returns c).Else-answer-lt-PLACES),
      record {
        outcome = c.windows.result;
        answers = c.windows.ensures;
        numbers = c.put.ensures ∙ ap (answered room) c.panel_numbers-numbers.ensures;
      },
    )
