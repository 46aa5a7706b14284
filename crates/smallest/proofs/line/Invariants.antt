-- `smallest::line` meets its contract. The codes passed are in parts.
use Rattle.smallest.specs.Codes.{PartsLine}
use Rattle.smallest.proofs.line.Given as goal

abbrev pub invariant-loop-c : goal.invariant-loop-c
invariant-loop-c l = PartsLine l.size l.to l.from l.c l.row l.initial.cells l.cells
