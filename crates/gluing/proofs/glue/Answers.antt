-- `gluing::glue` meets its contract: it lays both effects over cells without bounds.
use Rattle.gluing.specs.Gluing.{glue_is}
use Rattle.gluing.proofs.glue.Goals as goal

pub returns : goal.returns
returns c = glue_is c.args.side _ _ _ _ _ _ c.requires.2 c.clear.ensures c.lay.ensures c.lay-2.ensures
