-- `demands_test::main` meets its contract: the loop keeps the number of cases and the count's range.
use borrow.Author.Rules.{rules}
use mathlib.Core.Path.{◌≡◌}
use Prim.Native.Nat.{◌≤◌, ◌-◌}
use lib.ListN.{length}
use Rattle.demands_test.proofs.main.Given as goal

abbrev pub invariant-loop-i : goal.invariant-loop-i
invariant-loop-i l = (l.i ≤ 23) × (length l.cases ≡ 23)

abbrev pub decreases-loop-i : goal.decreases-loop-i
decreases-loop-i l = 23 - l.i
