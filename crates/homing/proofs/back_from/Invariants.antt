-- The invariant: of the steps before `from`, those from i on are checked, s is its step of the round, and `low` is not after `from`.
use Prim.Native.Nat.{◌≤◌}
use Rattle.paths.specs.State.{state}
use Rattle.homing.specs.Homing.{Backward}
use Rattle.homing.proofs.back_from.Given as goal

abbrev pub invariant-loop-i : goal.invariant-loop-i
invariant-loop-i l =
    Backward l.up l.far l.steps l.clocks l.total l.from l.q (state l.initial.time l.initial.parent l.initial.stamp) l.i l.s l.next (state l.time l.parent l.stamp) × (l.low ≤ l.from)
