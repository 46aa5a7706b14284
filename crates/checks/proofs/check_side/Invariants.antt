-- The invariant: the demands from clock j on are left.
use Rattle.sweeps.specs.Order.{side_of}
use Rattle.paths.specs.State.{state}
use Rattle.checks.specs.Turns.{Turn}
use Rattle.checks.specs.SideChecks.{side_from}
use Rattle.checks.proofs.check_side.Given as goal

abbrev pub invariant-loop-j : goal.invariant-loop-j
invariant-loop-j l =
    Turn (side_of l.upper l.keys l.far l.total l.s l.i 1 l.clocks) l.initial.swept.raised l.initial.swept.stamp (state l.initial.time l.initial.parent l.initial.stamp)
    (side_from l.upper l.keys l.far l.total l.clocks l.s l.i l.j) l.swept.raised l.swept.stamp (state l.time l.parent l.stamp)
