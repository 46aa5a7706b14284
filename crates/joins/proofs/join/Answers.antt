-- `joins::join` meets its contract: it glues and closes.
use Rattle.joins.specs.Joining.{glued_ranged, glued_joins}
use native.Mathlib.Omega.{arith}
use Rattle.joins.proofs.join.Goals as goal

pub close-requires : goal.close-requires
close-requires c =
    (omega arith, omega arith, glued_ranged c.args.side c.glue.ensures c.requires.5 c.requires.6)

pub returns : goal.returns
returns c = glued_joins c.args.side c.glue.ensures c.requires.5 c.requires.6 _ _ c.close.ensures
