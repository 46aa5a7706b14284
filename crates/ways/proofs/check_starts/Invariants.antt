-- The invariant: the start demands from clock j on are left.
use Rattle.paths.specs.State.{state}
use Rattle.ways.specs.Clocks.{Left}
use Rattle.ways.specs.Starting.{starts_by}
use Rattle.ways.proofs.check_starts.Given as goal

abbrev pub invariant-loop-j : goal.invariant-loop-j
invariant-loop-j l =
    Left (starts_by l.total) l.clocks l.initial.swept.raised l.initial.swept.stamp (state l.initial.time l.initial.parent l.initial.stamp)
    l.j l.swept.raised l.swept.stamp (state l.time l.parent l.stamp)
