-- The invariant: the demands from step i on are left, and s is its step of the round.
use mathlib.Core.Path.{◌≡◌}
use Prim.Native.Nat.{◌%◌}
use Rattle.sweeps.specs.Order.{forth_of}
use Rattle.paths.specs.State.{state}
use Rattle.checks.specs.Turns.{Turn}
use Rattle.ways.specs.Forth.{forth_from}
use Rattle.ways.proofs.forth.Given as goal

abbrev pub invariant-loop-i : goal.invariant-loop-i
invariant-loop-i l =
    Turn (forth_of l.low l.far l.steps l.clocks l.total 0 l.total) l.initial.swept.raised l.initial.swept.stamp (state l.initial.time l.initial.parent l.initial.stamp)
    (forth_from l.low l.far l.steps l.clocks l.total l.i) l.swept.raised l.swept.stamp (state l.time l.parent l.stamp)
    × (l.s ≡ l.i % l.steps)
