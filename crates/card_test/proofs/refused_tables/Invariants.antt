-- `card_test::refused_tables` meets its contract: the loop keeps the tape's length and the count's range.
use borrow.Author.Rules.{rules}
use mathlib.Core.Path.{◌≡◌}
use Prim.Native.Nat.{◌≤◌, ◌-◌}
use lib.ListN.{length}
use Rattle.card_test.proofs.refused_tables.Given as goal

abbrev pub invariant-loop-case : goal.invariant-loop-case
invariant-loop-case l = (l.case ≤ 29) × (length l.tape ≡ 776)

abbrev pub decreases-loop-case : goal.decreases-loop-case
decreases-loop-case l = 29 - l.case
