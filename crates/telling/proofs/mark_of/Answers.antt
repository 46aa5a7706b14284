-- `telling::mark_of` meets its contract: each return is a case of the bound.
use mathlib.Core.Path.{refl}
use Rattle.zones.specs.Codes.{bound_none, bound_some}
use native.Mathlib.Omega.{arith}
use Rattle.telling.proofs.mark_of.Goals as goal

pub returns-then-e-eq-NONE : goal.returns-then-e-eq-NONE
returns-then-e-eq-NONE c = rw (bound_none _ c.if-e-eq-NONE.true) refl

pub returns-then-e-eq0 : goal.returns-then-e-eq0
returns-then-e-eq0 c = rw (bound_some _ c.if-e-eq-NONE.false) (omega (arith, c.if-e-eq0.true))

pub returns : goal.returns
returns c = rw (bound_some _ c.if-e-eq-NONE.false) (omega (arith, c.if-e-eq0.false))
