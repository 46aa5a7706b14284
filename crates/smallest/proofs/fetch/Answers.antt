use Rattle.basics.specs.Places.{written_none, written_more}
use native.Mathlib.Omega.{arith}
use Rattle.smallest.proofs.fetch.Goals as goal

pub loop-j-init : goal.loop-j-init
loop-j-init c = written_none _ _

pub loop-j-preserved : goal.loop-j-preserved
loop-j-preserved c = written_more _ c.loop-j.j _ _ _ (omega arith) (omega arith) c.loop-j.invariant
