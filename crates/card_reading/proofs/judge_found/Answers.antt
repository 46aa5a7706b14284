-- A line that says nothing is refused, then a head out of its place; any other line is judged by its kind.
use borrow.Author.Rules.{rules}
use mathlib.Core.Path.{sym, ◌∙◌}
use borrow.Author.Tests.{ne_eqb, not-true, not-false}
use Rattle.card_reading.specs.Judged.{judge_found}
use Rattle.card_reading.proofs.judge_found.Goals as goal

pub returns-then-f-eq0 : goal.returns-then-f-eq0
unfolding judge_found
returns-then-f-eq0 c = simp c.if-f-eq0.true c.refuse.ensures

pub returns-then-not-head_placed : goal.returns-then-not-head_placed
unfolding judge_found
returns-then-not-head_placed c =
    simp (
      ne_eqb c.args.f.kind 0 c.if-f-eq0.false,
      sym c.head_placed.ensures ∙ not-true _ c.if-not-head_placed.true-raw,
    )
    c.refuse-then-not-head_placed.ensures

pub returns : goal.returns
unfolding judge_found
returns c =
    simp (
      ne_eqb c.args.f.kind 0 c.if-f-eq0.false,
      sym c.head_placed.ensures ∙ not-false _ c.if-not-head_placed.false-raw,
    )
    c.take_found.ensures
