-- The invariant: what is lowered keeps all solutions, and where nothing was lowered last, all demands hold.
use Rattle.latest.specs.Steps.{back_edges}
use Rattle.latest.specs.Settle.{Settling, measure}
use Rattle.latest.proofs.settle.Given as goal

abbrev pub invariant-loop-hit : goal.invariant-loop-hit
invariant-loop-hit l = Settling l.low l.far l.steps l.clocks l.total (back_edges l.up l.far l.steps l.clocks l.total) l.initial.late l.late l.hit

abbrev pub decreases-loop-hit : goal.decreases-loop-hit
decreases-loop-hit l = measure l.low l.far l.steps l.clocks l.total (back_edges l.up l.far l.steps l.clocks l.total) l.late l.hit
