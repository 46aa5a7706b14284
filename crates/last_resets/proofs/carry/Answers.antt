use Rattle.std.proofs.Common.{◌+◌, arith}
use Rattle.last_resets.specs.Carried.{carried_small}
use Rattle.last_resets.proofs.carry.Goals as goal

pub one_more-requires : goal.one_more-requires
one_more-requires c =
    let small = carried_small _ _ _ _ 500 c.loop-n.n _ c.loop-n.invariant c.requires.3 in
    omega (arith, small.few (c.args.from + c.loop-n.n))
