-- The numbers of each case.
use mathlib.Core.Path.{sym, ap, ◌∙◌}
use Rattle.numbers.specs.Numbers.{plan_numbers}
use borrow.Author.Rules.{rules}
use Rattle.numbers.proofs.plan_numbers.Goals as goal

pub returns-in-Found : goal.returns-in-Found
returns-in-Found c = sym (ap plan_numbers c.in-Found.is)

pub returns-in-Loop : goal.returns-in-Loop
returns-in-Loop c = sym (ap plan_numbers c.in-Loop.is)

pub returns-in-Refused : goal.returns-in-Refused
returns-in-Refused c = c.refused_numbers.ensures ∙ sym (ap plan_numbers c.in-Refused.is)
