-- `records::take_end` meets its contract: the tests come in the definition's order.
use borrow.Author.Rules.{rules}
use Rattle.records.specs.Rules.{ended}
use Rattle.records.specs.Tests.{tests}
use Rattle.records.proofs.take_end.Goals as goal

pub returns-then-t-lt1 : goal.returns-then-t-lt1
unfolding ended
returns-then-t-lt1 c = search (rules, tests)

pub returns-then-t-ne0 : goal.returns-then-t-ne0
unfolding ended
returns-then-t-ne0 c = search (rules, tests, c.if-t-ne0.true)

pub returns : goal.returns
unfolding ended
returns c = search (rules, tests, c.if-t-ne0.false)
