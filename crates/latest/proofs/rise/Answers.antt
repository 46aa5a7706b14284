use Rattle.last_resets.specs.Walking.{step_on}
use Rattle.ways.specs.Forth.{going_placed}
use Rattle.latest.specs.Glide.{rising_able, rising_next}
use Rattle.latest.proofs.rise.Goals as goal

pub bound_side-lowest-requires : goal.bound_side-lowest-requires
bound_side-lowest-requires c =
    let w = c.loop-i-test.true in (
      going_placed _ _ _ _ _ _ _ c.requires.0 c.loop-i.invariant.step w,
      rising_able _ _ _ _ _ _ _ _ _ _ _ c.loop-i.invariant w,
    )

pub loop-i-preserved : goal.loop-i-preserved
loop-i-preserved c =
    let l = c.loop-i in
    rising_next _ _ _ _ _ _ _ _ _ _ _ l.invariant c.loop-i-test.true _ _ _ c.bound_side-lowest.ensures _ _
    (step_on l.i _ _ _ c.requires.0.some l.invariant.step c.following-s.ensures) c.later-top.ensures.0 c.later-top.ensures.1
