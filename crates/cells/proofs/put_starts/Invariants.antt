-- The demands of the clocks from j on are left.
use Rattle.runs.specs.Demand.{starts_of, start_demands}
use Rattle.cells.specs.Writing.{Left}
use Rattle.cells.specs.Pieces.{starts_left}
use Rattle.cells.proofs.put_starts.Given as goal

abbrev pub invariant-loop-j : goal.invariant-loop-j
invariant-loop-j l =
    Left l.initial.row l.q (start_demands l.total (starts_of l.start) 1 l.clocks) l.row l.p (starts_left l.total (starts_of l.start) l.clocks l.j)
