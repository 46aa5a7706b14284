-- The number and the place.
use mathlib.Core.Path.{refl}
use borrow.Author.Rules.{rules}
use lib.Ieee.{of_bits}
use Rattle.panel.proofs.refusal_numbers.Goals as goal

pub returns : goal.returns
unfolding of_bits
returns c = rw c.number.ensures refl
