-- `windows_test::rows` meets its contract: the loop keeps the last step within the largest rooms, and the measure is the steps left.
use Rattle.std.proofs.Common.{◌-◌, ◌≤◌, rules}
use Rattle.windows_test.proofs.rows.Given as goal

abbrev pub invariant-loop-i : goal.invariant-loop-i
invariant-loop-i l = l.to ≤ 1025

abbrev pub decreases-loop-i : goal.decreases-loop-i
decreases-loop-i l = l.to - l.i
