-- `scan_test::shifts` meets its contract: the loop keeps the tape's length and the count's range.
use borrow.Author.Rules.{rules}
use mathlib.Core.Path.{◌≡◌}
use Prim.Native.Nat.{◌≤◌, ◌-◌}
use lib.ListN.{length}
use Rattle.scan_test.proofs.shifts.Given as goal

abbrev pub invariant-loop-case : goal.invariant-loop-case
invariant-loop-case l = (l.case ≤ 43) × (length l.tape ≡ 1662)

abbrev pub decreases-loop-case : goal.decreases-loop-case
decreases-loop-case l = 43 - l.case
