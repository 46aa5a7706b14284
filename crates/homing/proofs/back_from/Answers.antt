use native.Mathlib.Omega.{arith}
use Rattle.ways.specs.Forth.{going_placed}
use Rattle.ways.specs.Back.{step_back}
use Rattle.homing.specs.Homing.{backward_first, backward_able, backward_next}
use Rattle.homing.proofs.back_from.Goals as goal

pub loop-i-init : goal.loop-i-init
loop-i-init c = (backward_first _ _ _ _ _ _ _ _ _ c.requires.2, omega arith)

pub check_side-swept-requires : goal.check_side-swept-requires
check_side-swept-requires c =
    let l = c.loop-i in
    let p = c.requires in
    let e = step_back l.i _ _ _ p.0.some (omega arith) l.invariant.0.step c.preceding-s.ensures in (
      going_placed _ _ _ _ _ _ _ p.0 e (omega arith),
      backward_able _ _ _ _ _ _ _ _ _ _ _ _ l.invariant.0 p.0.clocks p.0.few p.1 _ _ (omega arith) e p.3 p.4,
    )

pub loop-i-preserved : goal.loop-i-preserved
loop-i-preserved c =
    let l = c.loop-i in
    let p = c.requires in
    let e = step_back l.i _ _ _ p.0.some (omega arith) l.invariant.0.step c.preceding-s.ensures in (
      backward_next _ _ _ _ _ _ _ _ _ _ _ _ l.invariant.0 p.0.clocks p.0.few p.1 _ _ (omega arith) e _ _ _ _
          c.check_side-swept.ensures,
      omega arith,
    )
