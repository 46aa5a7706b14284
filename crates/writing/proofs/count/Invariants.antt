-- The invariant: the demands of the guards before a place are counted.
use Rattle.writing.specs.Tally.{Tallied}
use Rattle.writing.proofs.count.Given as goal

abbrev pub invariant-loop-place : goal.invariant-loop-place
invariant-loop-place l = Tallied l.t l.n l.place
