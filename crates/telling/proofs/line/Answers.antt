use Rattle.telling.specs.Told.{filled_more}
use Rattle.std.proofs.Common.{rules}
use native.Mathlib.Omega.{arith}
use Rattle.telling.proofs.line.Goals as goal

pub loop-c-preserved : goal.loop-c-preserved
loop-c-preserved c =
    let h = c.loop-c.invariant in record {
      bounds = filled_more _ _ _ _ _ _ _ (omega (arith, h.bounds.full)) (search rules) h.bounds;
      marks = filled_more _ _ _ _ _ _ _ (omega (arith, h.marks.full)) c.mark_of.ensures h.marks;
    }
