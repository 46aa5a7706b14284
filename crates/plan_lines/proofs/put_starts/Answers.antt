use Rattle.std.proofs.Common.{◌+◌, ◌-◌, ◌≡◌, ℕ, suc, List, get_or, add-one, arith}
use Rattle.text.specs.Over.{Written, written_none, written_then}
use Rattle.plan_lines.specs.PlanLines.{number_in, start_line, start_lines}
use Rattle.plan_lines.proofs.put_starts.Goals as goal

-- one clock more
more : {l m k : List ℕ} {at a r : ℕ} (starts : List ℕ) (j : ℕ) → Written l at (start_lines (number_in starts) j) m a
    → Written m a (start_line (j + 1) (get_or starts j 0)) k r → Written l at (start_lines (number_in starts) (j + 1)) k r
unfolding start_lines
more starts j w x =
    let less : suc j - 1 ≡ j = omega arith in rw (add-one j, less) (written_then w (rw (add-one j) at x))

pub loop-j-init : goal.loop-j-init
unfolding start_lines
loop-j-init c = (omega arith, written_none _ _)

pub loop-j-preserved : goal.loop-j-preserved
loop-j-preserved c = (omega arith, more c.args.starts.now _ c.loop-j.invariant.1 c.put_start-next.ensures.written)
