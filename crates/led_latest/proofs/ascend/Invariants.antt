-- The invariant: the demands of the steps before i are checked where nothing was lowered, and s is the step of the round that step i is.
use Rattle.std.proofs.Common.{◌+◌, ◌*◌, ◌-◌}
use Rattle.lowering.specs.Outcome as outcome
use Rattle.leads.specs.Leads.{led_by}
use Rattle.sweeps.specs.Order.{back_at}
use Rattle.led_latest.specs.Steps.{led_back_edges}
use Rattle.latest.specs.Ascending.{Ascending}
use Rattle.led_latest.proofs.ascend.Given as goal

abbrev pub invariant-loop-i : goal.invariant-loop-i
invariant-loop-i l =
    Ascending l.low l.far l.steps l.clocks l.total (back_at l.up (led_by l.leads) l.far l.steps l.clocks l.total) (led_back_edges l.up (led_by l.leads) l.far l.steps l.clocks l.total) l.initial.late l.late l.i l.s l.way.hit

abbrev pub decreases-loop-i : goal.decreases-loop-i
decreases-loop-i l =
    outcome.total l.late * (l.total + 2) + (l.total + 1 - l.i)
