use Rattle.paths.specs.Sweep.{trail_none, trail_more, trail_full}
use Rattle.std.proofs.Common.{arith}
use Rattle.paths.proofs.mark.Goals as goal

pub loop-k-init : goal.loop-k-init
loop-k-init c = trail_none _ _ _ _ _ c.requires.1

pub loop-k-preserved : goal.loop-k-preserved
loop-k-preserved c =
    let p = c.requires.0 in
    trail_more _ _ _ p.links _ _ _ _ _ c.loop-k.invariant p.room (omega arith) (omega arith) (omega arith)

pub returns : goal.returns
returns c =
    let p = c.requires in
    trail_full _ _ _ p.0.links _ _ _ _ _ c.loop-k.invariant p.1 c.loop-k-test.false
