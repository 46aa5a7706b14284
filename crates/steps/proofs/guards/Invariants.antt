-- `steps::guards` meets its contract. What is left to put in, put into what is there, is what was to be put in.
use Rattle.std.proofs.Common.{drop}
use Rattle.steps.specs.Puts.{puts_of}
use Rattle.runs.specs.Demand.{guards_demands}
use mathlib.Core.Path.{◌≡◌}
use Rattle.steps.proofs.guards.Given as goal

abbrev pub invariant-loop-g : goal.invariant-loop-g
invariant-loop-g l =
    puts_of (guards_demands (drop l.g-index l.g-items) l.side (λ j. j)) l.cells
    ≡ puts_of (guards_demands l.g-items l.side (λ j. j)) l.initial.cells
