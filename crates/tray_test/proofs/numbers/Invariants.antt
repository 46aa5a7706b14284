-- `tray_test::numbers` meets its contract: the first of the equal numbers is not past the place.
use Rattle.std.proofs.Common.{◌-◌, ◌≤◌, length, rules}
use Rattle.tray_test.proofs.numbers.Given as goal

abbrev pub invariant-loop-at : goal.invariant-loop-at
invariant-loop-at l = (l.from ≤ l.at) × (l.at ≤ length l.row)

abbrev pub decreases-loop-at : goal.decreases-loop-at
decreases-loop-at l = length l.row - l.at
