-- `leads::put_step` meets its contract: the leads before guard i have their numbers.
use Rattle.scaling.specs.Constants.{table_with}
use Rattle.leads.specs.Filling.{Filling}
use Rattle.leads.proofs.put_step.Given as goal

abbrev pub invariant-loop-i : goal.invariant-loop-i
invariant-loop-i l = Filling (table_with l.constants l.t) l.row l.s l.i l.next
