use Rattle.std.proofs.Common.{rules, arith}
use Rattle.basics.specs.Mapped.{mapped_all}
use Rattle.traying.specs.Moved.{cleared_at}
use Rattle.traying.proofs.clear.Invariants.{clearing}
use Rattle.traying.proofs.clear.Goals as goal

pub returns : goal.returns
unfolding cleared_at
returns c =
    let s = c.args in
    mapped_all (clearing s.resets.now s.i) s.readings 6 c.loop-j.j c.loop-j.reading-items (search rules) (omega arith) c.loop-j.invariant
