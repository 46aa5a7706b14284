-- The invariant: what stands up to place j is the word so often as the number says, up to there.
use Prim.Native.Nat.{◌-◌}
use Rattle.write_out.specs.Copies.{Turn}
use Rattle.write_out.proofs.repeat.Given as goal

abbrev pub invariant-loop-j : goal.invariant-loop-j
invariant-loop-j l = Turn l.initial.out l.from l.end l.times l.size l.stop l.out l.j

abbrev pub decreases-loop-j : goal.decreases-loop-j
decreases-loop-j l = l.stop - l.j
