-- `smallest::fetch` meets its contract. The first j places are written.
use mathlib.Core.Path.{◌≡◌}
use Prim.Native.Nat.{◌+◌, ◌-◌, ◌/◌}
use Rattle.basics.specs.Places.{at, written}
use Rattle.zones.specs.Codes.{BIAS}
use Rattle.smallest.proofs.fetch.Given as goal

abbrev pub invariant-loop-j : goal.invariant-loop-j
invariant-loop-j l = l.starts ≡ written (λ i. BIAS - at l.cells (i + 1) / 2) l.j l.initial.starts
