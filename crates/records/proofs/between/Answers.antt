-- `records::between` meets its contract.
use borrow.Author.Rules.{rules}
use Rattle.records.specs.Tests.{tests}
use Rattle.records.proofs.between.Goals as goal

pub returns-then-x-low : goal.returns-then-x-low
returns-then-x-low c = search (rules, tests)

pub returns : goal.returns
returns c = search (rules, tests)
