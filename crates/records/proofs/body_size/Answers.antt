-- `records::body_size` meets its contract: each kind's test is the definition's.
use borrow.Author.Rules.{rules}
use Rattle.records.specs.Tests.{tests}
use Rattle.records.proofs.body_size.Goals as goal

pub returns-then-k-eq1 : goal.returns-then-k-eq1
returns-then-k-eq1 c = search (rules, tests)

pub returns-then-k-eq2 : goal.returns-then-k-eq2
returns-then-k-eq2 c = search (rules, tests)

pub returns-then-k-eq3 : goal.returns-then-k-eq3
returns-then-k-eq3 c = search (rules, tests)

pub returns-then-k-eq7 : goal.returns-then-k-eq7
returns-then-k-eq7 c = search (rules, tests)

pub returns : goal.returns
returns c = search (rules, tests)
