-- `scaling::put_scaled` meets its contract: the guards before place i are scaled.
use Rattle.scaling.specs.Filling.{Scaling}
use Rattle.scaling.proofs.put_scaled.Given as goal

abbrev pub invariant-loop-i : goal.invariant-loop-i
invariant-loop-i l = Scaling l.parts l.t l.row l.i
