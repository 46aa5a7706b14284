-- `tray_test::line` meets its contract: the parts lie within the counters and the room.
use Rattle.std.proofs.Common.{sym, length-take-le, rules}
use Rattle.tray_test.proofs.line.Goals as goal

pub slice_bounds-give-end : goal.slice_bounds-give-end
slice_bounds-give-end c = sym (length-take-le _ _ (search rules))

pub slice_bounds-give-end-2 : goal.slice_bounds-give-end-2
slice_bounds-give-end-2 c = sym (length-take-le _ _ (search rules))
