-- The numbers of each case.
use mathlib.Core.Path.{sym, ap, ◌∙◌}
use Rattle.numbers.specs.Numbers.{count_numbers}
use borrow.Author.Rules.{rules}
use Rattle.numbers.proofs.count_numbers.Goals as goal

pub returns-in-Finite : goal.returns-in-Finite
returns-in-Finite c = sym (ap count_numbers c.in-Finite.is)

pub returns-in-Endless : goal.returns-in-Endless
returns-in-Endless c = sym (ap count_numbers c.in-Endless.is)

pub returns-in-Refused : goal.returns-in-Refused
returns-in-Refused c = c.refused_numbers.ensures ∙ sym (ap count_numbers c.in-Refused.is)
