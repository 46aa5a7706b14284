-- `reader_test::prefixes` meets its contract: each prefix lies within the table.
use borrow.Author.Rules.{rules}
use mathlib.Core.Path.{◌≡◌, sym}
use lib.Seq.{length-take-le}
use Prim.Native.Nat.{◌≤◌, ◌-◌}
use lib.ListN.{length}
use Rattle.reader_test.proofs.prefixes.Given as goal

abbrev pub invariant-loop-n : goal.invariant-loop-n
invariant-loop-n l = (l.n ≤ 21) × (length l.t ≡ 20)

abbrev pub decreases-loop-n : goal.decreases-loop-n
decreases-loop-n l = 21 - l.n
