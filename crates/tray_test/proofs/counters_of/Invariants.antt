-- `tray_test::counters_of` meets its contract: the loop keeps the length of the counters.
use Rattle.std.proofs.Common.{◌≡◌, ◌-◌, length, rules}
use Rattle.tray_test.proofs.counters_of.Given as goal

abbrev pub invariant-loop-k : goal.invariant-loop-k
invariant-loop-k l = length l.out ≡ 300

abbrev pub decreases-loop-k : goal.decreases-loop-k
decreases-loop-k l = 300 - l.k
