use Rattle.telling.specs.Told.{told_more}
use mathlib.Core.Path.{refl}
use Rattle.telling.proofs.tell.Goals as goal

pub loop-r-preserved : goal.loop-r-preserved
loop-r-preserved c = told_more _ _ _ _ _ _ _ _ _ _ _ refl c.loop-r.invariant c.line.ensures
