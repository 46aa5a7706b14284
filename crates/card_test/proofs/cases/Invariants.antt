-- `card_test::cases` meets its contract: a card begins within the tape, or past its end.
use borrow.Author.Rules.{rules}
use Prim.Native.Nat.{◌≤◌, ◌+◌, ◌-◌}
use lib.ListN.{length}
use Rattle.card_test.proofs.cases.Given as goal

abbrev pub invariant-loop-from : goal.invariant-loop-from
invariant-loop-from l = (length l.tape ≤ 16384) × (l.from ≤ length l.tape + 1)

abbrev pub decreases-loop-from : goal.decreases-loop-from
decreases-loop-from l = 16386 - l.from
