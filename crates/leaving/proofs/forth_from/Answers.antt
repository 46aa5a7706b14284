use Rattle.ways.specs.Forth.{step_forth, going_placed}
use Rattle.leaving.specs.Leaving.{forward_first, forward_order_able, forward_lower_able, forward_next}
use Rattle.leaving.proofs.forth_from.Goals as goal

pub loop-i-init : goal.loop-i-init
loop-i-init c = let p = c.requires in forward_first _ _ _ _ _ _ _ _ _ _ p.1 p.2 p.3

pub check-ordered-requires : goal.check-ordered-requires
check-ordered-requires c =
    let p = c.requires in
    forward_order_able _ _ _ _ _ _ _ _ _ _ _ _ c.loop-i.invariant p.0.clocks p.0.few c.loop-i-test.true p.4 p.5 _
    c.not_after.ensures

pub check_side-swept-requires : goal.check_side-swept-requires
check_side-swept-requires c =
    let p = c.requires in
    let w = c.loop-i-test.true in (
      going_placed _ _ _ _ _ _ _ p.0 c.loop-i.invariant.step w,
      forward_lower_able _ _ _ _ _ _ _ _ _ _ _ _ c.loop-i.invariant p.0.clocks p.0.few w p.4 p.5 _ c.not_after.ensures _ _ _
          c.check-ordered.ensures,
    )

pub loop-i-preserved : goal.loop-i-preserved
loop-i-preserved c =
    let p = c.requires in
    forward_next _ _ _ _ _ _ _ _ _ _ _ _ c.loop-i.invariant p.0.clocks p.0.few c.loop-i-test.true p.4 p.5 _
    c.not_after.ensures _ _ _ c.check-ordered.ensures _ _ _ c.check_side-swept.ensures _ _
    (step_forth c.loop-i.i _ _ _ p.0.some c.loop-i.invariant.step c.following-s.ensures)
    c.later-top.ensures.1
