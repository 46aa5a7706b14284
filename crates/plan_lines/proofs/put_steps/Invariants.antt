-- The invariant: the moments of the first i steps are written.
use Rattle.std.proofs.Common.{◌+◌, ◌*◌, ◌≤◌}
use Rattle.text.specs.Over.{Written}
use Rattle.plan_lines.specs.PlanLines.{number_in, step_lines}
use Rattle.plan_lines.proofs.put_steps.Given as goal

abbrev pub invariant-loop-i : goal.invariant-loop-i
invariant-loop-i l =
    (l.next ≤ l.at + 77 * l.i) × Written l.initial.out l.at (step_lines l.steps (number_in l.times) l.i) l.out l.next
