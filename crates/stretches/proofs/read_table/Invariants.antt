-- The answer due from the place reached is that of the whole table, and the first stretch is known once one has come. The measure is
-- what is left of the bytes.
use Prim.Native.Nat.{◌-◌}
use lib.ListN.{length}
use Rattle.stretches.specs.Whole.{Reaches, Since}
use Rattle.stretches.proofs.read_table.Given as goal

abbrev pub invariant-loop-a : goal.invariant-loop-a
invariant-loop-a l = Reaches l.bytes l.at l.t × Since l.bytes l.at l.t l.first

abbrev pub decreases-loop-a : goal.decreases-loop-a
decreases-loop-a l = length l.bytes - l.at
