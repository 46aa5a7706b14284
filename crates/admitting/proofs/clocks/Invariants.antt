-- `admitting::clocks` meets its contract. What is left to put in, put into what is there, is what was to be put in.
use Rattle.steps.specs.Puts.{puts_of}
use Rattle.effects.specs.Demands.{each}
use Rattle.runs.specs.Demand.{starts_of}
use Prim.Native.Nat.{◌-◌}
use mathlib.Core.Path.{◌≡◌}
use Rattle.admitting.proofs.clocks.Given as goal

abbrev pub invariant-loop-j : goal.invariant-loop-j
invariant-loop-j l =
    puts_of (each (l.j - 1) (starts_of l.start)) l.left ≡ puts_of (each (l.side - 1) (starts_of l.start)) l.initial.left
