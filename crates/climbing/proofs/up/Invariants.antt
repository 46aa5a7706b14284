-- `climbing::up` meets its contract. Place i has the effect of 2^i rounds, which run.
use Rattle.climbing.specs.Climbing.{Reached}
use Rattle.effects.specs.Starts.{starts_for}
use Rattle.table.specs.Step.{Step}
use Prim.Native.Nat.{◌^◌}
use mathlib.Core.List.{List}
use mathlib.Core.Path.{◌≡◌}
use Rattle.climbing.proofs.up.Given as goal

abbrev pub invariant-loop-i : goal.invariant-loop-i
invariant-loop-i l =
    (l.power ≡ 2 ^ l.i)
    × ((τ : List Step) → Reached l.side (starts_for l.side l.fn.start) τ 0 l.initial.row → Reached l.side (starts_for l.side l.fn.start) τ l.i l.row)
