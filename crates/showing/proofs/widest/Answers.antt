use Rattle.showing.specs.Rooms.{row_small}
use Rattle.showing.specs.Best.{kept_more}
use Rattle.showing.proofs.widest.Goals as goal

pub better-best-requires : goal.better-best-requires
better-best-requires c = row_small _ _ _ _ _ _ _ c.requires c.loop-i-test.true c.span_of.ensures

pub loop-i-preserved : goal.loop-i-preserved
loop-i-preserved c = kept_more _ _ _ _ c.loop-i.invariant _ _ c.span_of.ensures c.better-best.ensures
