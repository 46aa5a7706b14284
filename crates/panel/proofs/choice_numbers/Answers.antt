-- The two times, or none.
use mathlib.Core.Path.{sym, ap}
use borrow.Author.Rules.{rules}
use lib.Ieee.{of_bits}
use Rattle.widest.specs.declared.Answer.TheVariants.{Told}
use Rattle.panel.specs.Numbers.{widest_numbers}
use Rattle.panel.proofs.choice_numbers.Goals as goal

pub returns-in-Widest : goal.returns-in-Widest
unfolding of_bits
returns-in-Widest c = sym (ap (λ x. widest_numbers (Told x)) c.in-Widest.is)

pub returns-in-NoneClosed : goal.returns-in-NoneClosed
unfolding of_bits
returns-in-NoneClosed c = sym (ap (λ x. widest_numbers (Told x)) c.in-NoneClosed.is)
