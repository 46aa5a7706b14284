use Rattle.std.proofs.Common.{arith}
use Rattle.bounding.specs.Side.{side_able, side_next, side_last}
use Rattle.bounding.proofs.bound_side.Goals as goal

pub bound_key-lowest-requires : goal.bound_key-lowest-requires
bound_key-lowest-requires c =
    let l = c.loop-j in
    let t = c.loop-j-test.true in
    let p = c.requires.0 in
    (p.few, p.past, omega (arith, t, p.clocks), side_able _ _ _ _ _ _ _ _ l.j _ l.invariant (omega (arith, t)))

pub loop-j-preserved : goal.loop-j-preserved
loop-j-preserved c =
    let l = c.loop-j in
    side_next _ _ _ _ _ _ _ _ l.j _ l.invariant (omega (arith, c.loop-j-test.true)) _ c.bound_key-lowest.ensures

pub returns : goal.returns
returns c = side_last _ _ _ _ _ _ _ _ _ _ c.loop-j.invariant (omega (arith, c.loop-j-test.false))
