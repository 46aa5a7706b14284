-- `demands_test::part` meets its contract: the part lies within the row.
use borrow.Author.Rules.{rules}
use mathlib.Core.Path.{sym}
use lib.Seq.{length-take-le}
use Rattle.demands_test.proofs.part.Goals as goal

pub slice_bounds-ask-end-then-size-row : goal.slice_bounds-ask-end-then-size-row
slice_bounds-ask-end-then-size-row c = sym (length-take-le _ _ (search rules))
