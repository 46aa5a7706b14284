use Rattle.gluing.specs.Blocks.{block_none, block_more}
use Rattle.gluing.proofs.block.Goals as goal

pub loop-r-init : goal.loop-r-init
loop-r-init c = block_none _ _ _ _ _

pub loop-r-preserved : goal.loop-r-preserved
loop-r-preserved c = block_more _ _ _ _ _ _ _ _ c.loop-r.invariant c.strip.ensures
