-- `plan_test::part` meets its contract: each part lies within its room.
use borrow.Author.Rules.{rules}
use mathlib.Core.Path.{sym}
use lib.Seq.{length-take-le}
use Rattle.plan_test.proofs.part.Goals as goal

pub slice_bounds-ask-end-then-c-vertices : goal.slice_bounds-ask-end-then-c-vertices
slice_bounds-ask-end-then-c-vertices c = sym (length-take-le _ _ (search rules))

pub slice_bounds-ask-end-then-c-vertices-3 : goal.slice_bounds-ask-end-then-c-vertices-3
slice_bounds-ask-end-then-c-vertices-3 c = sym (length-take-le _ _ (search rules))

pub slice_bounds-ask-end-then-c-vertices-5 : goal.slice_bounds-ask-end-then-c-vertices-5
slice_bounds-ask-end-then-c-vertices-5 c = sym (length-take-le _ _ (search rules))
