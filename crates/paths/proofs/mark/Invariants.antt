-- The invariant: k steps from v lead to x, and have marked what they passed.
use Rattle.paths.specs.Sweep.{Trail}
use Rattle.paths.proofs.mark.Given as goal

abbrev pub invariant-loop-k : goal.invariant-loop-k
invariant-loop-k l = Trail l.n l.parent l.stamp l.v l._k l.x l.initial.marks l.marks
