-- The invariant: some of the steps' demands are checked, and s is the step of the round that step i is.
use Prim.Native.Nat.{◌-◌}
use Rattle.paths.specs.State.{state}
use Rattle.homing.specs.Homing.{Homeward}
use Rattle.homing.proofs.home.Given as goal

abbrev pub invariant-loop-i : goal.invariant-loop-i
invariant-loop-i l =
    Homeward l.low l.up l.far l.steps l.clocks l.total l.q (state l.initial.time l.initial.parent l.initial.stamp) l.i l.s l.next (state l.time l.parent l.stamp)

abbrev pub decreases-loop-i : goal.decreases-loop-i
decreases-loop-i l = l.last - l.next
