use Rattle.std.proofs.Common.{arith}
use Rattle.latest.specs.Ascending.{ascending_next, ascending_less}
use Rattle.led_latest.specs.Ascent.{ascending_last}
use Rattle.led_latest.proofs.ascend.Goals as goal

pub loop-i-smaller : goal.loop-i-smaller
loop-i-smaller c =
    let l = c.loop-i in
    ascending_less _ _ _ _ _ _ _ _ _ l.i _ _ l.invariant c.loop-i-test.true _ _ _ c.ascend_step-way.ensures

pub loop-i-preserved : goal.loop-i-preserved
loop-i-preserved c =
    let l = c.loop-i in
    ascending_next _ _ _ _ _ _ _ _ _ l.i _ _ l.invariant _ _ _ c.ascend_step-way.ensures _ c.step_of-s.ensures

pub returns : goal.returns
returns c = ascending_last _ _ _ _ _ _ _ _ _ _ _ _ c.loop-i.invariant (omega (arith, c.loop-i-test.false))
