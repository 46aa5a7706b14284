-- `records::take_head` meets its contract: the tests come in the definition's order.
use mathlib.Core.Path.{◌≡◌, sym, ◌∙◌}
use mathlib.Core.Bool.{true, false}
use borrow.Author.Tests.{not-true, not-false}
use Rattle.records.specs.Rules.{within, headed}
use Rattle.records.proofs.take_head.Goals as goal

pub returns-then-not-between : goal.returns-then-not-between
unfolding headed
returns-then-not-between c =
    let few : within 1 c.args.n 6 ≡ false =
    sym c.between.ensures ∙ not-true _ c.if-not-between.true-raw in
    simp few c.refuse.ensures

pub returns : goal.returns
unfolding headed
returns c =
    let few : within 1 c.args.n 6 ≡ true =
    sym c.between.ensures ∙ not-false _ c.if-not-between.false-raw in
    simp few
