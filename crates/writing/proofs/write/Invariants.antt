-- The invariant: what is left, of the steps to come and of the starts, makes the row at exit.
use Rattle.writing.specs.Passed.{Passed}
use Rattle.writing.proofs.write.Given as goal

abbrev pub invariant-loop-past : goal.invariant-loop-past
invariant-loop-past l = Passed l.t l.start l.k l.initial.row l.row l.q l.past l.s l.resets
