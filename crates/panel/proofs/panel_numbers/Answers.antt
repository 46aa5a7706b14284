-- The numbers of each case.
use mathlib.Core.Path.{sym, ap, ◌∙◌}
use borrow.Author.Rules.{rules}
use Rattle.panel.specs.Numbers.{panel_numbers}
use Rattle.panel.proofs.panel_numbers.Goals as goal

pub returns-in-Shown : goal.returns-in-Shown
returns-in-Shown c = sym (ap panel_numbers c.in-Shown.is)

pub returns-in-Refused : goal.returns-in-Refused
returns-in-Refused c = c.refused_numbers.ensures ∙ sym (ap panel_numbers c.in-Refused.is)
