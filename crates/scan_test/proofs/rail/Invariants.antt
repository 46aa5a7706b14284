-- `scan_test::rail` meets its contract: the loop keeps the tapes' lengths and the count's range.
use borrow.Author.Rules.{rules}
use mathlib.Core.Path.{◌≡◌}
use Prim.Native.Nat.{◌≤◌, ◌-◌}
use lib.ListN.{length}
use Rattle.scan_test.proofs.rail.Given as goal

abbrev pub invariant-loop-case : goal.invariant-loop-case
invariant-loop-case l = (l.case ≤ 17) × (length l.tape ≡ 776) × (length l.texts ≡ 318)

abbrev pub decreases-loop-case : goal.decreases-loop-case
decreases-loop-case l = 17 - l.case
