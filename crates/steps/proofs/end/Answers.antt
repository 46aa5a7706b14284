-- `steps::end` meets its contract.
use native.Mathlib.Omega.{arith}
use mathlib.Core.Path.{sym}
use Rattle.table.specs.Step.{end_none, end_some}
use Rattle.steps.proofs.end.Goals as goal

pub returns-then-second-eq0 : goal.returns-then-second-eq0
returns-then-second-eq0 c = (sym (end_none _ _ _ c.if-second-eq0.true), omega arith)

pub returns-else-second-eq0 : goal.returns-else-second-eq0
returns-else-second-eq0 c = (sym (end_some _ _ _ (omega arith)), omega arith)
