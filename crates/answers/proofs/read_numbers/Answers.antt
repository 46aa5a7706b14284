-- The numbers of each case.
use mathlib.Core.Path.{sym, ap, ◌∙◌}
use Rattle.answers.specs.Four.{read_numbers}
use borrow.Author.Rules.{rules}
use Rattle.answers.proofs.read_numbers.Goals as goal

pub returns-in-Counted : goal.returns-in-Counted
returns-in-Counted c = sym (ap read_numbers c.in-Counted.is)

pub returns-in-Refused : goal.returns-in-Refused
returns-in-Refused c = c.refused_numbers.ensures ∙ sym (ap read_numbers c.in-Refused.is)
