-- `filling::empty_table` meets its contract: it is the definition, field by field.
use borrow.Author.Rules.{rules}
use Rattle.filling.specs.Filling.{empty}
use Rattle.records.specs.Tests.{tests}
use Rattle.filling.proofs.empty_table.Goals as goal

pub returns : goal.returns
unfolding empty
returns c = search (rules, tests)
