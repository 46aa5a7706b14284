-- `reader_test::small` meets its contract: the loop keeps the tape's length and the count's range.
use borrow.Author.Rules.{rules}
use mathlib.Core.Path.{◌≡◌}
use Prim.Native.Nat.{◌≤◌, ◌-◌}
use lib.ListN.{length}
use Rattle.reader_test.proofs.small.Given as goal

abbrev pub invariant-loop-case : goal.invariant-loop-case
invariant-loop-case l = (l.case ≤ 56) × (length l.tape ≡ 1418)

abbrev pub decreases-loop-case : goal.decreases-loop-case
decreases-loop-case l = 56 - l.case
