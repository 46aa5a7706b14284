use Rattle.std.proofs.Common.{arith}
use Rattle.ways.specs.Forth.{going_placed}
use Rattle.ways.specs.Back.{step_back}
use Rattle.latest.specs.Descent.{order_able, lower_able, descending_next}
use Rattle.latest.proofs.descend.Goals as goal

pub bound-ordered-requires : goal.bound-ordered-requires
bound-ordered-requires c =
    let l = c.loop-i in
    let p = c.requires in
    let t = c.loop-i-test.true in
    let e = step_back l.i _ _ _ p.0.some (omega (arith, t)) l.invariant.step c.preceding-s.ensures in
    order_able _ _ _ _ _ _ _ _ _ l.i _ _ l.invariant p.1 _ (omega (arith, t)) _ e _ c.not_after.ensures

pub bound_side-lowest-requires : goal.bound_side-lowest-requires
bound_side-lowest-requires c =
    let l = c.loop-i in
    let p = c.requires in
    let t = c.loop-i-test.true in
    let e = step_back l.i _ _ _ p.0.some (omega (arith, t)) l.invariant.step c.preceding-s.ensures in (
      going_placed _ _ _ _ _ _ _ p.0 e (omega (arith, t, l.invariant.inside, p.1)),
      lower_able _ _ _ _ _ _ _ _ _ l.i _ _ l.invariant p.1 _ (omega (arith, t)) _ e _ c.not_after.ensures _ _ c.bound-ordered.ensures,
    )

pub loop-i-preserved : goal.loop-i-preserved
loop-i-preserved c =
    let l = c.loop-i in
    let p = c.requires in
    let t = c.loop-i-test.true in
    let e = step_back l.i _ _ _ p.0.some (omega (arith, t)) l.invariant.step c.preceding-s.ensures in
    descending_next _ _ _ _ _ _ _ _ _ l.i _ _ l.invariant p.1 _ (omega (arith, t)) _ e _ c.not_after.ensures _ _ c.bound-ordered.ensures
    _ _ c.bound_side-lowest.ensures
