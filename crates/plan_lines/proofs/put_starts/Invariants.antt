-- The invariant: the starts of clocks 1 to j are written.
use Rattle.std.proofs.Common.{◌+◌, ◌*◌, ◌≤◌}
use Rattle.text.specs.Over.{Written}
use Rattle.plan_lines.specs.PlanLines.{number_in, start_lines}
use Rattle.plan_lines.proofs.put_starts.Given as goal

abbrev pub invariant-loop-j : goal.invariant-loop-j
invariant-loop-j l =
    (l.next ≤ l.at + 51 * l.j) × Written l.initial.out l.at (start_lines (number_in l.starts) l.j) l.out l.next
