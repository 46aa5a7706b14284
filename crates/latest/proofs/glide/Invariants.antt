-- The invariant: what is lowered keeps all solutions, and i is a moment.
use Prim.Native.Nat.{◌+◌, ◌≤◌}
use Rattle.lowering.specs.Outcome.{Falling}
use Rattle.latest.specs.Steps.{step_edges}
use Rattle.latest.proofs.glide.Given as goal

abbrev pub invariant-loop-i : goal.invariant-loop-i
invariant-loop-i l =
    Falling (l.total + l.clocks + 1) (step_edges l.low l.up l.far l.steps l.clocks l.total) l.initial.late l.late × (l.i ≤ l.total)

abbrev pub decreases-loop-i : goal.decreases-loop-i
decreases-loop-i l = l.left
