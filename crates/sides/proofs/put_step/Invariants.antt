-- `sides::put_step` meets its contract: of step s the guards before place i are done.
use Rattle.scaling.specs.Constants.{table_with}
use Rattle.sides.specs.Filled.{Filled}
use Rattle.sides.proofs.put_step.Given as goal

abbrev pub invariant-loop-i : goal.invariant-loop-i
invariant-loop-i l = Filled l.upper (table_with l.constants l.t) l.row l.s l.i
