use Rattle.std.proofs.Common.{sym, arith}
use Rattle.latest.specs.Settle.{settling_glide, forth_able, all_able, settling_next, settling_last}
use Rattle.latest.proofs.settle.Goals as goal

pub descend-requires : goal.descend-requires
descend-requires c =
    let p = c.requires in
    let glided = settling_glide _ _ _ _ _ _ _ _ _ c.loop-hit.invariant _ c.glide.ensures in
    (p.0, omega arith, sym p.2, forth_able _ _ _ _ _ _ _ _ _ glided)

pub ascend-hit-requires : goal.ascend-hit-requires
ascend-hit-requires c =
    let p = c.requires in
    let glided = settling_glide _ _ _ _ _ _ _ _ _ c.loop-hit.invariant _ c.glide.ensures in
    (p.0, p.1, all_able _ _ _ _ _ _ _ _ _ glided _ _ c.descend.ensures)

pub loop-hit-preserved : goal.loop-hit-preserved
loop-hit-preserved c =
    let glided = settling_glide _ _ _ _ _ _ _ _ _ c.loop-hit.invariant _ c.glide.ensures in
    settling_next _ _ _ _ _ _ _ _ _ glided _ _ c.descend.ensures _ _ c.ascend-hit.ensures

pub returns : goal.returns
returns c = settling_last _ _ _ _ _ _ _ _ _ c.loop-hit.invariant _ _ c.ascend.ensures c.loop-hit-test.false
