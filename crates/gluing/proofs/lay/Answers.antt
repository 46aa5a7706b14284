-- `gluing::lay` meets its contract: it lays the four blocks.
use Rattle.gluing.specs.Laying.{lay_is}
use Rattle.gluing.proofs.lay.Goals as goal

pub returns : goal.returns
returns c = lay_is _ _ _ _ _ _ _ _ _ _ c.block.ensures c.block-2.ensures c.block-3.ensures c.block-4.ensures
