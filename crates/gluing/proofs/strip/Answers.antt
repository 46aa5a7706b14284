use Rattle.gluing.specs.Blocks.{strip_none, strip_more}
use Rattle.gluing.proofs.strip.Goals as goal

pub loop-c-init : goal.loop-c-init
loop-c-init c = strip_none _ _ _ _

pub loop-c-preserved : goal.loop-c-preserved
loop-c-preserved c = strip_more _ _ _ _ _ _ _ c.loop-c.invariant c.tighter.ensures
