-- `one_start::admit_starts` meets its contract: one test of the definition for each branch.
use mathlib.Core.Path.{sym, ◌∙◌}
use Prim.Native.Nat.{◌≤◌, ◌<◌}
use borrow.Author.Rules.{rules}
use native.Mathlib.Omega.{arith}
use Rattle.one_start.specs.Question.{admit_short, admit_all}
use Rattle.one_start.proofs.admit_starts.Goals as goal

pub returns-then-starts-clocks : goal.returns-then-starts-clocks
returns-then-starts-clocks c =
    let a = c.args in
    let short : a.starts < a.clocks = omega (arith, c.if-starts-clocks.true) in
    c.refuse.ensures ∙ sym (admit_short a.clocks a.starts short)

pub returns : goal.returns
returns c =
    let a = c.args in
    let enough : a.clocks ≤ a.starts = omega (arith, c.if-starts-clocks.false) in sym (admit_all a.clocks a.starts enough)
