-- `steps::clocks` meets its contract. What is left to put in, put into what is there, is what was to be put in.
use Rattle.steps.specs.Puts.{puts_of}
use Rattle.effects.specs.StepDemands.{clock_demands}
use Rattle.effects.specs.Demands.{each}
use Rattle.table.specs.Step.{step_at}
use mathlib.Core.Path.{◌≡◌}
use Prim.Native.Nat.{◌-◌}
use Rattle.steps.proofs.clocks.Given as goal

abbrev pub invariant-loop-j : goal.invariant-loop-j
invariant-loop-j l =
    puts_of (each (l.j - 1) (clock_demands l.side (step_at l.t l.i))) l.cells ≡ puts_of (each (l.side - 1) (clock_demands l.side (step_at l.t l.i))) l.initial.cells
