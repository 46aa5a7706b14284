-- The parts, the starts and the moments are written one after the other.
use Rattle.text.specs.Over.{written_then}
use Rattle.plan_lines.specs.PlanLines.{plan_lines}
use Rattle.plan_lines.proofs.put_plan.Goals as goal

pub returns-clause-written : goal.returns-clause-written
unfolding plan_lines
returns-clause-written c =
    written_then (written_then c.put_line1-a.ensures.written c.put_starts-b.ensures.written) c.put_steps.ensures.written
