-- The digits that are left, after those of the value, make the number of all. The measure is what is left of the text.
use borrow.Author.Rules.{rules}
use native.Mathlib.Omega.{arith}
use mathlib.Core.Path.{◌≡◌, refl, sym, ◌∙◌, ap}
use mathlib.Core.Bool.{true}
use Prim.Native.Nat.{ℕ, ◌+◌, ◌-◌, ◌≤◌}
use lib.ListN.{length, get_or, drop}
use Rattle.format.specs.Judged.{within_true}
use Rattle.card_lines.specs.Front.{digits_in, standing, digits_at}
use Rattle.card_lines.specs.Places.{digits_out, digits_other, standing_next, standing_done}
use Rattle.records.specs.Rules.{within}
use borrow.Author.Tests.{not-true, not-false}
use Rattle.card_lines.proofs.digits_at.Given as goal

abbrev pub invariant-loop-next : goal.invariant-loop-next
invariant-loop-next l =
    (length l.text ≤ 16384) × (l.next ≤ length l.text) × (l.value ≤ 65536)
    × (standing l.value l.next (digits_in (drop l.next l.text)) ≡ digits_at l.text l.at)

abbrev pub decreases-loop-next : goal.decreases-loop-next
decreases-loop-next l = length l.text - l.next
