-- The numbers of each case.
use mathlib.Core.Path.{sym, ap, ◌∙◌}
use borrow.Author.Rules.{rules}
use Rattle.panel.specs.Numbers.{widest_numbers}
use Rattle.panel.proofs.widest_numbers.Goals as goal

pub returns-in-Told : goal.returns-in-Told
returns-in-Told c = c.choice_numbers.ensures ∙ sym (ap widest_numbers c.in-Told.is)

pub returns-in-Refused : goal.returns-in-Refused
returns-in-Refused c = c.refusal_numbers.ensures ∙ sym (ap widest_numbers c.in-Refused.is)
