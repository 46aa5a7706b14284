-- `card_test::prefixes` meets its contract: each prefix lies within the card.
use borrow.Author.Rules.{rules}
use mathlib.Core.Path.{◌≡◌}
use Prim.Native.Nat.{◌≤◌, ◌-◌}
use lib.ListN.{length}
use Rattle.card_test.proofs.prefixes.Given as goal

abbrev pub invariant-loop-n : goal.invariant-loop-n
invariant-loop-n l = (l.n ≤ 57) × (length l.card ≡ 56)

abbrev pub decreases-loop-n : goal.decreases-loop-n
decreases-loop-n l = 57 - l.n
