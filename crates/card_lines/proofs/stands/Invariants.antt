-- The first i bytes of the word stand there. The measure is what is left of the word.
use borrow.Author.Rules.{rules}
use native.Mathlib.Omega.{arith}
use mathlib.Core.Path.{◌≡◌, sym, ◌∙◌, ap}
use Prim.Native.Nat.{◌+◌, ◌-◌, ◌≤◌}
use native.Mathlib.Nat.{add-zero, add_assoc}
use lib.ListN.{length, drop, length-drop}
use Rattle.card_lines.specs.Front.{starts}
use Rattle.card_lines.specs.Places.{starts_cut, starts_past, starts_next, starts_differ}
use Rattle.card_lines.proofs.stands.Given as goal

abbrev pub invariant-loop-i : goal.invariant-loop-i
invariant-loop-i l =
    (length l.text ≤ 16384) × (l.at + length l.word ≤ length l.text) × (l.i ≤ length l.word)
    × (starts (drop l.i l.word) (drop (l.at + l.i) l.text) ≡ starts l.word (drop l.at l.text))

abbrev pub decreases-loop-i : goal.decreases-loop-i
decreases-loop-i l = length l.word - l.i
