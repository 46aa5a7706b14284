-- The invariant: the first i places are written.
use Rattle.std.proofs.Common.{◌≡◌, ◌+◌, ◌-◌}
use Rattle.basics.specs.Places.{at, written}
use Rattle.readout.proofs.write_moments.Given as goal

abbrev pub invariant-loop-i : goal.invariant-loop-i
invariant-loop-i l = l.times ≡ written (λ j. at l.time (j + 1) - at l.time 0) l.i l.initial.times
