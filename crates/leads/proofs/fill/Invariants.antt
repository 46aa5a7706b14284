-- `leads::fill` meets its contract: the leads of the steps before step s have their numbers, and these steps are counted.
use Rattle.std.proofs.Common.{get_or}
use Rattle.scaling.specs.Constants.{table_with}
use Rattle.leads.specs.Filling.{Filling}
use Rattle.leads.proofs.fill.Given as goal

abbrev pub invariant-loop-s : goal.invariant-loop-s
invariant-loop-s l = Filling (table_with l.constants l.t) l.row l.s (get_or l.t.ends l.s 0) l.count
