-- Each clock in turn.
use Rattle.std.proofs.Common.{◌≤◌}
use Rattle.last_resets.proofs.lowest.Given as goal

abbrev pub invariant-loop-j : goal.invariant-loop-j
invariant-loop-j l = l.found ≤ l.low
