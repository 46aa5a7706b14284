-- `records::take_step` meets its contract: the tests come in the definition's order.
use native.Mathlib.Omega.{arith}
use borrow.Author.Tests.{lt-ltb, le-ltb}
use Rattle.records.specs.Rules.{finished}
use Rattle.records.proofs.take_step.Goals as goal

pub returns-then-t-ge16 : goal.returns-then-t-ge16
unfolding finished
returns-then-t-ge16 c =
    let n = c.args.t.steps in
    simp (le-ltb n 16 (omega (arith, c.if-t-ge16.true))) c.refuse.ensures

pub returns : goal.returns
unfolding finished
returns c =
    let n = c.args.t.steps in
    simp (lt-ltb n 16 (omega (arith, c.if-t-ge16.false)))
