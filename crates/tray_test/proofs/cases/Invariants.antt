-- `tray_test::cases` meets its contract: a line begins within the text, or past its end.
use Rattle.std.proofs.Common.{◌+◌, ◌-◌, ◌≤◌, length, rules}
use Rattle.tray_test.proofs.cases.Given as goal

abbrev pub invariant-loop-from : goal.invariant-loop-from
invariant-loop-from l = (length l.text ≤ 16384) × (l.from ≤ length l.text + 1)

abbrev pub decreases-loop-from : goal.decreases-loop-from
decreases-loop-from l = 16386 - l.from
