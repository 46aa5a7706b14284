-- The invariant: the codes passed are copied.
use Rattle.zones.specs.Lines.{LineTo}
use Rattle.zones.proofs.copy_line.Given as goal

abbrev pub invariant-loop-c : goal.invariant-loop-c
invariant-loop-c l = LineTo l.to l.from l.c l.other l.initial.row l.row
