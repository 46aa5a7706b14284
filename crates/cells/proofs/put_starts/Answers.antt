-- Each start demand is followed by its partners.
use Rattle.std.proofs.Common.{arith}
use Rattle.cells.specs.Pieces.{partners_fit, starts_more}
use Rattle.cells.proofs.put_starts.Goals as goal

pub put_partner-p-requires : goal.put_partner-p-requires
put_partner-p-requires c = (
  c.requires.1,
  omega arith,
  omega arith,
  partners_fit _ _ _ (omega arith) c.loop-j.invariant c.put_not_after-p.ensures,
)

pub loop-j-preserved : goal.loop-j-preserved
loop-j-preserved c =
    starts_more _ _ _ (omega arith) c.loop-j.invariant c.put_not_after-p.ensures c.put_partner-p.ensures
