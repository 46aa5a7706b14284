-- The invariant: the first j places are written.
use Rattle.std.proofs.Common.{◌≡◌, ◌+◌, ◌-◌}
use Rattle.basics.specs.Places.{at, written}
use Rattle.readout.proofs.tell.Given as goal

abbrev pub invariant-loop-j : goal.invariant-loop-j
invariant-loop-j l = l.starts ≡ written (λ i. at l.late 0 - at l.late (l.total + (i + 1))) l.j l.initial.starts
