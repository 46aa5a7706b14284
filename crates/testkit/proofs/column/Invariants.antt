-- The value is kept below 65,536.
use Rattle.std.proofs.Common.{◌<◌}
use Rattle.testkit.proofs.column.Given as goal

abbrev pub invariant-loop-digit : goal.invariant-loop-digit
invariant-loop-digit l = l.value < 65536
