use Rattle.std.proofs.Common.{sym, arith}
use Rattle.latest.specs.Settle.{forth_able, all_able, settling_next}
use Rattle.led_latest.proofs.lower_led.Goals as goal

pub descend-requires : goal.descend-requires
descend-requires c =
    let p = c.requires in
    (p.0, omega arith, sym p.3, forth_able _ _ _ _ _ _ _ _ _ c.loop-hit.invariant)

pub ascend-hit-requires : goal.ascend-hit-requires
ascend-hit-requires c =
    let p = c.requires in
    (p.0, p.1, p.2, all_able _ _ _ _ _ _ _ _ _ c.loop-hit.invariant _ _ c.descend.ensures)

pub loop-hit-preserved : goal.loop-hit-preserved
loop-hit-preserved c =
    settling_next _ _ _ _ _ _ _ _ _ c.loop-hit.invariant _ _ c.descend.ensures _ _ c.ascend-hit.ensures
