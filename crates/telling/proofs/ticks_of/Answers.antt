-- `telling::ticks_of` meets its contract: neither the two numbers nor their difference wraps.
use mathlib.Core.Path.{refl}
use Prim.Native.Nat.{◌/◌}
use Rattle.zones.specs.Codes.{BIAS, bound_none, bound_some}
use Rattle.basics.specs.Signed.{less_read, difference}
use native.Mathlib.Omega.{arith}
use Rattle.telling.proofs.ticks_of.Goals as goal

pub returns-then-e-eq-NONE : goal.returns-then-e-eq-NONE
returns-then-e-eq-NONE c = rw (bound_none _ c.if-e-eq-NONE.true) refl

pub returns : goal.returns
returns c =
    rw (bound_some _ c.if-e-eq-NONE.false) (difference (c.args.e / 2) BIAS (omega arith) (omega arith) _
    (less_read (c.args.e / 2) BIAS (omega arith) (omega arith)))
