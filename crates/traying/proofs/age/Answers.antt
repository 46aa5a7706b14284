use Rattle.std.proofs.Common.{rules, arith}
use Rattle.basics.specs.Mapped.{mapped_all}
use Rattle.scans.specs.Scan.{aged}
use Rattle.traying.proofs.age.Invariants.{aging}
use Rattle.traying.proofs.age.Goals as goal

pub returns : goal.returns
unfolding aged
returns c =
    let s = c.args in
    mapped_all (aging s.clocks s.ticks) s.readings 6 c.loop-i.i c.loop-i.reading-items (search rules) (omega arith) c.loop-i.invariant
