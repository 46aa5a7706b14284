-- `traying::age` meets its contract: the readings before have aged.
use mathlib.Core.Bool.{cond}
use Prim.Native.Nat.{ℕ}
use lib.Dec.{ltb}
use Rattle.basics.specs.Mapped.{MappedTo}
use Rattle.ticks.specs.Ticks.{later_of}
use Rattle.traying.proofs.age.Given as goal

-- the reading of the clock at a place
abbrev pub aging : ℕ → ℕ → ℕ → ℕ → ℕ
aging clocks ticks i x = cond (ltb i clocks) (later_of x ticks) x

abbrev pub invariant-loop-i : goal.invariant-loop-i
invariant-loop-i l = MappedTo (aging l.clocks l.ticks) l.fn.readings l.i l.reading-items
