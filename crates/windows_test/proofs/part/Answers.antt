-- `windows_test::part` meets its contract: each part lies within its room.
use Rattle.std.proofs.Common.{sym, length-take-le, rules}
use Rattle.windows_test.proofs.part.Goals as goal

pub slice_bounds-ask-end-then-b-times : goal.slice_bounds-ask-end-then-b-times
slice_bounds-ask-end-then-b-times c = sym (length-take-le _ _ (search rules))

pub slice_bounds-ask-end-then-b-times-3 : goal.slice_bounds-ask-end-then-b-times-3
slice_bounds-ask-end-then-b-times-3 c = sym (length-take-le _ _ (search rules))
