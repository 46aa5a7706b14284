-- `card_test::samples` meets its contract: the loop keeps the tape's length and the count's range.
use borrow.Author.Rules.{rules}
use mathlib.Core.Path.{◌≡◌}
use Prim.Native.Nat.{◌≤◌, ◌-◌}
use lib.ListN.{length}
use Rattle.card_test.proofs.samples.Given as goal

abbrev pub invariant-loop-case : goal.invariant-loop-case
invariant-loop-case l = (l.case ≤ 19) × (length l.tape ≡ 403)

abbrev pub decreases-loop-case : goal.decreases-loop-case
decreases-loop-case l = 19 - l.case
