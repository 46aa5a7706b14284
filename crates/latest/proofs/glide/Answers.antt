use Rattle.lowering.specs.Outcome.{falling_then}
use Rattle.latest.proofs.glide.Goals as goal

pub loop-i-preserved : goal.loop-i-preserved
loop-i-preserved c =
    (falling_then _ _ _ _ _ c.loop-i.invariant.0 c.glide_step-way.ensures.0, c.glide_step-way.ensures.1)
