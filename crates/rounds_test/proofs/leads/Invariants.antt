-- `rounds_test::leads` meets its contract: the loop keeps the arrays' lengths and the count's range.
use borrow.Author.Rules.{rules}
use mathlib.Core.Path.{◌≡◌}
use Prim.Native.Nat.{◌≤◌, ◌-◌}
use lib.ListN.{length}
use Rattle.rounds_test.proofs.leads.Given as goal

abbrev pub invariant-loop-i : goal.invariant-loop-i
invariant-loop-i l = (l.i ≤ 11) × (length l.low ≡ 11) × (length l.high ≡ 11)

abbrev pub decreases-loop-i : goal.decreases-loop-i
decreases-loop-i l = 11 - l.i
