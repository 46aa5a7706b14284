-- The invariant: the demands of the steps from i on are checked, and s is the step of the round that step i is.
use Rattle.latest.specs.Descent.{Descending}
use Rattle.latest.proofs.descend.Given as goal

abbrev pub invariant-loop-i : goal.invariant-loop-i
invariant-loop-i l =
    Descending l.low l.far l.steps l.clocks l.total l.from l.floor l.initial.late l.late l.i l.s l.lowest
