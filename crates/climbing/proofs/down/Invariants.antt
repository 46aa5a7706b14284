-- `climbing::down` meets its contract. What is known at place i leads to what is known below it.
use Rattle.climbing.specs.Ways.{Down}
use Rattle.effects.specs.Starts.{starts_for}
use Rattle.table.specs.Step.{Step}
use Prim.Native.Nat.{◌^◌}
use mathlib.Core.List.{List}
use mathlib.Core.Path.{◌≡◌}
use Rattle.climbing.proofs.down.Given as goal

abbrev pub invariant-loop-i : goal.invariant-loop-i
invariant-loop-i l =
    (l.half ≡ 2 ^ l.i)
    × ((τ : List Step) → Down l.side (starts_for l.side l.start) τ l.place l.place l.power l.initial.row
    → Down l.side (starts_for l.side l.start) τ l.place l.i l.count l.row)
