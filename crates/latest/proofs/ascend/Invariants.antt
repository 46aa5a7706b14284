-- The invariant: the demands of the steps before i are checked where nothing was lowered, and s is the step of the round that step i is.
use Prim.Native.Nat.{◌+◌, ◌*◌, ◌-◌}
use Rattle.lowering.specs.Outcome as outcome
use Rattle.sweeps.specs.Order.{upper_at}
use Rattle.latest.specs.Steps.{back_edges}
use Rattle.latest.specs.Ascending.{Ascending}
use Rattle.latest.proofs.ascend.Given as goal

abbrev pub invariant-loop-i : goal.invariant-loop-i
invariant-loop-i l =
    Ascending l.low l.far l.steps l.clocks l.total (upper_at l.up l.far l.steps l.clocks l.total) (back_edges l.up l.far l.steps l.clocks l.total) l.initial.late l.late l.i l.s l.way.hit

abbrev pub decreases-loop-i : goal.decreases-loop-i
decreases-loop-i l =
    outcome.total l.late * (l.total + 2) + (l.total + 1 - l.i)
