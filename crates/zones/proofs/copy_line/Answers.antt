use Rattle.std.proofs.Common.{◌≡◌, arith}
use Rattle.zones.specs.Lines.{line_none, line_more}
use Rattle.zones.proofs.copy_line.Goals as goal

pub loop-c-init : goal.loop-c-init
loop-c-init c = line_none _ _ _ _

pub loop-c-preserved : goal.loop-c-preserved
loop-c-preserved c = line_more _ _ _ _ _ _ (omega arith) c.loop-c.invariant

pub returns : goal.returns
returns c =
    let e : c.loop-c.c ≡ c.args.size = omega arith in
    rw e at c.loop-c.invariant
