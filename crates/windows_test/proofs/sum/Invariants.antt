-- `windows_test::sum` meets its contract: the measure is what is left of the times.
use Rattle.std.proofs.Common.{◌-◌, length, rules}
use Rattle.windows_test.proofs.sum.Given as goal

abbrev pub invariant-loop-i : goal.invariant-loop-i
invariant-loop-i l = Unit {0}

abbrev pub decreases-loop-i : goal.decreases-loop-i
decreases-loop-i l = length l.times - l.i
