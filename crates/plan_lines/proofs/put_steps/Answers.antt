use Rattle.std.proofs.Common.{◌+◌, ◌-◌, ◌/◌, ◌%◌, ◌≡◌, ℕ, suc, List, get_or, add-one, arith}
use Rattle.text.specs.Over.{Written, written_none, written_then}
use Rattle.plan_lines.specs.PlanLines.{number_in, step_line, step_lines}
use Rattle.plan_lines.proofs.put_steps.Goals as goal

-- one step more
more : {l m k : List ℕ} {at a r : ℕ} (L : ℕ) (times : List ℕ) (i : ℕ) → Written l at (step_lines L (number_in times) i) m a
    → Written m a (step_line (i / L + 1) (i % L + 1) (get_or times i 0)) k r
    → Written l at (step_lines L (number_in times) (i + 1)) k r
unfolding step_lines
more L times i w x = let less : suc i - 1 ≡ i = omega arith in rw (add-one i, less) (written_then w x)

pub loop-i-init : goal.loop-i-init
unfolding step_lines
loop-i-init c = (omega arith, written_none _ _)

pub loop-i-preserved : goal.loop-i-preserved
loop-i-preserved c = (omega arith, more _ c.args.times.now _ c.loop-i.invariant.1 c.put_step-next.ensures.written)
