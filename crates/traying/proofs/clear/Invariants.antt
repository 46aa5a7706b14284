-- `traying::clear` meets its contract: the resets of the clocks before have taken place.
use mathlib.Core.Bool.{Bool, false, cond}
use mathlib.Core.List.{List}
use Prim.Native.Nat.{ℕ, ◌+◌, ◌*◌}
use lib.ListN.{get_or}
use Rattle.basics.specs.Mapped.{MappedTo}
use Rattle.traying.proofs.clear.Given as goal

-- the reading of the clock at a place
abbrev pub clearing : List Bool → ℕ → ℕ → ℕ → ℕ
clearing resets i j x = cond (get_or resets (7 * i + j + 1) false) 0 x

abbrev pub invariant-loop-j : goal.invariant-loop-j
invariant-loop-j l = MappedTo (clearing l.resets l.i) l.fn.readings l.j l.reading-items
