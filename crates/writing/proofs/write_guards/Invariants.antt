-- The demands of the guards before place g are written.
use Rattle.writing.specs.Passed.{Inside}
use Rattle.writing.proofs.write_guards.Given as goal

abbrev pub invariant-loop-g : goal.invariant-loop-g
invariant-loop-g l = Inside l.t l.initial.row l.row l.q l.p l.i l.s l.g l.resets
