-- The invariant: of the steps from `from` on, those before i are checked, and s is the step of the round that step i is.
use Rattle.paths.specs.State.{state}
use Rattle.leaving.specs.Leaving.{Forward}
use Rattle.leaving.proofs.forth_from.Given as goal

abbrev pub invariant-loop-i : goal.invariant-loop-i
invariant-loop-i l =
    Forward l.low l.far l.steps l.clocks l.total l.q (state l.initial.time l.initial.parent l.initial.stamp) l.i l.s l.top l.next (state l.time l.parent l.stamp)
