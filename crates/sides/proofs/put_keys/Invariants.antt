-- `sides::put_keys` meets its contract: the steps before step s are done.
use Rattle.std.proofs.Common.{get_or}
use Rattle.scaling.specs.Constants.{table_with}
use Rattle.sides.specs.Filled.{Filled}
use Rattle.sides.proofs.put_keys.Given as goal

abbrev pub invariant-loop-s : goal.invariant-loop-s
invariant-loop-s l = Filled l.upper (table_with l.constants l.t) l.row l.s (get_or l.t.ends l.s 0)
