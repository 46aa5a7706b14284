-- The invariant: the demands from clock j on are left.
use Rattle.sweeps.specs.Order.{side_of}
use Rattle.checks.specs.SideChecks.{side_from}
use Rattle.lowering.specs.Lowered.{bounds}
use Rattle.bounding.specs.Turns.{Turn}
use Rattle.bounding.proofs.bound_side.Given as goal

abbrev pub invariant-loop-j : goal.invariant-loop-j
invariant-loop-j l =
    Turn (side_of l.upper l.keys l.far l.total l.s l.i 1 l.clocks) (bounds l.initial.late l.low) (side_from l.upper l.keys l.far l.total l.clocks l.s l.i l.j)
    (bounds l.late l.lowest)
