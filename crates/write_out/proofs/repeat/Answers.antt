use Rattle.write_out.specs.Copies.{turn_first, turn_more, turn_last}
use Rattle.write_out.proofs.repeat.Goals as goal

pub loop-j-init : goal.loop-j-init
loop-j-init c = let p = c.requires in turn_first _ _ _ _ p.0 p.1 p.2

pub loop-j-preserved : goal.loop-j-preserved
loop-j-preserved c = turn_more c.loop-j.invariant c.loop-j-test.true

pub returns : goal.returns
returns c = turn_last c.loop-j.invariant c.loop-j-test.false
