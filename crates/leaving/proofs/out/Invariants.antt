-- The invariant: some of the steps' demands are checked since the way forth, and i is a moment.
use Prim.Native.Nat.{◌-◌}
use Rattle.paths.specs.State.{state}
use Rattle.leaving.specs.Leaving.{Outward}
use Rattle.leaving.proofs.out.Given as goal

abbrev pub invariant-loop-i : goal.invariant-loop-i
invariant-loop-i l =
    Outward l.low l.up l.far l.steps l.clocks l.total l.initial.next (state l.initial.time l.initial.parent l.initial.stamp) l.i l.next (state l.time l.parent l.stamp)

abbrev pub decreases-loop-i : goal.decreases-loop-i
decreases-loop-i l = l.last - l.next
