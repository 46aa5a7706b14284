-- The order demand of the step, its guards from below, and the way back.
use native.Mathlib.Omega.{arith}
use Rattle.ways.specs.Forth.{step_forth, going_placed}
use Rattle.homing.specs.Homing.{order_able, lower_able, return_few, return_able, step_went}
use Rattle.homing.proofs.home_step.Goals as goal

pub check-ordered-requires : goal.check-ordered-requires
check-ordered-requires c =
    let p = c.requires in
    order_able _ _ _ _ _ _ _ _ _ p.2 p.3 p.0.clocks p.0.few p.4 _ p.5 _ c.not_after.ensures

pub check_side-lowered-requires : goal.check_side-lowered-requires
check_side-lowered-requires c =
    let p = c.requires in (
      going_placed _ _ _ _ _ _ _ p.0 p.3 p.2,
      lower_able _ _ _ _ _ _ _ _ _ p.2 p.3 p.0.clocks p.0.few p.4 _ p.5 _ c.not_after.ensures _ _ _ c.check-ordered.ensures,
    )

pub back_from-requires : goal.back_from-requires
back_from-requires c =
    let p = c.requires in (
      p.1,
      omega (arith, p.2),
      step_forth c.args.i _ _ _ p.0.some p.3 c.following-after.ensures,
      omega (
        arith,
        p.4,
        return_few _ _ _ _ _ _ _ _ _ p.2 p.3 p.0.clocks p.0.few p.4 _ p.5 _ c.not_after.ensures _ _ _ c.check-ordered.ensures _ _ _
            c.check_side-lowered.ensures,
      ),
      return_able _ _ _ _ _ _ _ _ _ p.2 p.3 p.0.clocks p.0.few p.4 _ p.5 _ c.not_after.ensures _ _ _ c.check-ordered.ensures _ _ _
          c.check_side-lowered.ensures,
    )

pub returns : goal.returns
returns c =
    let p = c.requires in
    let w = step_went _ _ _ _ _ _ _ _ _ p.2 p.3 p.0.clocks p.0.few p.4 _ p.5 _ c.not_after.ensures _ _ _ c.check-ordered.ensures _ _ _
    c.check_side-lowered.ensures _ _ c.back_from.ensures.0 in
    (w.0, w.1, c.back_from.ensures.1)
