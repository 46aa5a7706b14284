-- The invariant: where there is no wish to go on, all demands hold.
use Rattle.leads.specs.Leads.{led_by}
use Rattle.led_latest.specs.Steps.{led_back_edges}
use Rattle.latest.specs.Settle.{Settling, measure}
use Rattle.led_latest.proofs.lower_led.Given as goal

abbrev pub invariant-loop-hit : goal.invariant-loop-hit
invariant-loop-hit l =
    Settling l.low l.far l.steps l.clocks l.total (led_back_edges l.up (led_by l.leads) l.far l.steps l.clocks l.total) l.initial.late l.late l.hit

abbrev pub decreases-loop-hit : goal.decreases-loop-hit
decreases-loop-hit l = measure l.low l.far l.steps l.clocks l.total (led_back_edges l.up (led_by l.leads) l.far l.steps l.clocks l.total) l.late l.hit
