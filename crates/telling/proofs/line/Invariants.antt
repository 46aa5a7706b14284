-- `telling::line` meets its contract. The codes passed are told.
use Rattle.telling.specs.Told.{ToldLine}
use Rattle.telling.proofs.line.Given as goal

abbrev pub invariant-loop-c : goal.invariant-loop-c
invariant-loop-c l = ToldLine l.to l.from l.c l.row l.initial.bounds l.bounds l.initial.marks l.marks
