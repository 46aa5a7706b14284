-- The numbers of each case.
use mathlib.Core.Path.{sym, ap, ◌∙◌}
use Rattle.scan.specs.Told.{verdict_numbers}
use borrow.Author.Rules.{rules}
use Rattle.scan.proofs.verdict_numbers.Goals as goal

pub returns-in-Accepted : goal.returns-in-Accepted
returns-in-Accepted c = sym (ap verdict_numbers c.in-Accepted.is)

pub returns-in-TurnedAway : goal.returns-in-TurnedAway
returns-in-TurnedAway c = sym (ap verdict_numbers c.in-TurnedAway.is)

pub returns-in-Refused : goal.returns-in-Refused
returns-in-Refused c = c.refused_numbers.ensures ∙ sym (ap verdict_numbers c.in-Refused.is)
