-- `smallest::in_parts` meets its contract: its two returns are the cases of `parts_code`.
use mathlib.Core.Path.{sym}
use Rattle.smallest.specs.Codes.{parts_none, parts_some}
use Rattle.smallest.proofs.in_parts.Goals as goal

pub returns-then-e-eq-NONE : goal.returns-then-e-eq-NONE
returns-then-e-eq-NONE c = sym (parts_none _ _ c.if-e-eq-NONE.true)

pub returns : goal.returns
returns c = sym (parts_some _ _ c.if-e-eq-NONE.false)
