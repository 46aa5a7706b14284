-- The numbers of each case.
use mathlib.Core.Path.{sym, ap, ◌∙◌}
use Rattle.card.specs.Told.{converted_numbers}
use borrow.Author.Rules.{rules}
use Rattle.card.proofs.converted_numbers.Goals as goal

pub returns-in-Written : goal.returns-in-Written
returns-in-Written c = sym (ap converted_numbers c.in-Written.is)

pub returns-in-Refused : goal.returns-in-Refused
returns-in-Refused c = c.refused_numbers.ensures ∙ sym (ap converted_numbers c.in-Refused.is)
