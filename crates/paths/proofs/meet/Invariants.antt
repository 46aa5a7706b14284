-- The invariant: the walks from the vertices below v are done, and met no cycle.
use Rattle.paths.specs.Sweep.{Swept}
use Rattle.paths.proofs.meet.Given as goal

abbrev pub invariant-loop-v : goal.invariant-loop-v
invariant-loop-v l = Swept l.n l.parent l.stamp l.v l.initial.marks l.marks
