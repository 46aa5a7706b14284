-- The clocks below j have their last resets after the step.
use Rattle.std.proofs.Common.{◌≡◌}
use Rattle.constraints.specs.Pieces.{reset_to}
use Rattle.constraints.proofs.reset_clocks.Given as goal

abbrev pub invariant-loop-j : goal.invariant-loop-j
invariant-loop-j l = l.resets ≡ reset_to l.flags l.s l.moment l.initial.resets l.j
