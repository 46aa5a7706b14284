-- The invariant: the first k places are the first k vertices of the walk, which has not come round before.
use mathlib.Core.Path.{◌≡◌}
use Prim.Native.Nat.{ℕ, ◌-◌, ◌≤◌, ◌<◌}
use lib.ListN.{length}
use Rattle.paths.specs.Walk.{iter, Ring}
use Rattle.basics.specs.Places.{at, written}
use Rattle.paths.proofs.write_cycle.Given as goal

abbrev pub invariant-loop-x : goal.invariant-loop-x
invariant-loop-x l =
    (0 < l.k) × (length l.out ≡ length l.initial.out) × (l.x ≡ iter (at l.parent) l.k l.u)
    × (l.out ≡ written (λ j. iter (at l.parent) j l.u) l.k l.initial.out)
    × ((m : ℕ) → Ring (at l.parent) l.u m → l.k ≤ m)

abbrev pub decreases-loop-x : goal.decreases-loop-x
decreases-loop-x l = length l.out - l.k
