-- The invariant: the demands of the first i steps are left, and s is the step of the round that step i is.
use mathlib.Core.Path.{◌≡◌}
use Prim.Native.Nat.{◌%◌}
use Rattle.sweeps.specs.Order.{upper_of}
use Rattle.paths.specs.State.{state}
use Rattle.checks.specs.Turns.{Turn}
use Rattle.ways.proofs.back.Given as goal

abbrev pub invariant-loop-i : goal.invariant-loop-i
invariant-loop-i l =
    Turn (upper_of l.up l.far l.steps l.clocks l.total l.total) l.initial.swept.raised l.initial.swept.stamp (state l.initial.time l.initial.parent l.initial.stamp)
    (upper_of l.up l.far l.steps l.clocks l.total l.i) l.swept.raised l.swept.stamp (state l.time l.parent l.stamp)
    × (l.s ≡ l.i % l.steps)
