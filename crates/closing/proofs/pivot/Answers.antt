use Rattle.closing.specs.Rows.{rows_ready, rows_more}
use native.Mathlib.Omega.{arith}
use Rattle.closing.proofs.pivot.Goals as goal

pub pivot_row-requires : goal.pivot_row-requires
pivot_row-requires c =
    rows_ready _ _ c.requires.0 c.requires.1 c.requires.2 c.requires.3 _ _ c.loop-a.invariant (omega arith)

pub loop-a-preserved : goal.loop-a-preserved
loop-a-preserved c =
    rows_more _ _ c.requires.0 c.requires.1 c.requires.2 c.requires.3 _ _ c.loop-a.invariant (omega arith) _
    c.pivot_row.ensures
