-- The measure is what is left of the bytes, of a call and of a turn of its loop.
use Prim.Native.Nat.{◌-◌}
use lib.ListN.{length}
use Rattle.write_out.specs.Going.{Going}
use Rattle.write_out.proofs.+write_items.Given as goal

abbrev pub decreases-write_items : goal.decreases-write_items
decreases-write_items l = length l.bytes.now - l.from

abbrev pub invariant-loop-from : goal.invariant-loop-from
invariant-loop-from l = Going l.bytes l.from l.start l.initial.out l.out l.at l.end

abbrev pub decreases-loop-from : goal.decreases-loop-from
decreases-loop-from l = length l.bytes - l.at
