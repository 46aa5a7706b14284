use Rattle.closing.specs.Closing.{pivots_ranged, pivots_more, pivots_stop}
use Rattle.zones.specs.Building.{ranged_wider}
use Rattle.zones.specs.Matrix.{start}
use Prim.Native.Nat.{◌^◌}
use native.Mathlib.Omega.{arith}
use Rattle.closing.proofs.close.Goals as goal

pub loop-p-init : goal.loop-p-init
loop-p-init c = (c.requires.2.full, start {k = c.args.from} (omega arith))

pub returns-then-cells-p-lt-ZERO : goal.returns-then-cells-p-lt-ZERO
returns-then-cells-p-lt-ZERO c =
    pivots_stop (omega arith) c.requires.1 c.requires.2 _ _ _ c.loop-p.invariant.0 c.loop-p.invariant.1 (omega arith) (omega arith)

pub pivot-requires : goal.pivot-requires
pivot-requires c = (
  c.requires.1,
  omega arith,
  ranged_wider (2 ^ 57) (omega arith)
      (pivots_ranged (omega arith) c.requires.1 c.requires.2 _ _ _ c.loop-p.invariant.0 c.loop-p.invariant.1 (omega arith)),
  omega arith,
)

pub loop-p-preserved : goal.loop-p-preserved
loop-p-preserved c = (
  c.pivot.ensures.full,
  pivots_more (omega arith) c.requires.1 c.requires.2 _ _ _ c.loop-p.invariant.0 c.loop-p.invariant.1 (omega arith)
      (omega arith) (omega arith) _ c.pivot.ensures,
)
