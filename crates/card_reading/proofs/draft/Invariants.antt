-- `card_reading::draft` meets its contract: line by line, the answer that is due and the bytes that are drafted.
use borrow.Author.Rules.{rules}
use mathlib.Core.Path.{◌≡◌, refl, sym, ◌∙◌, subst}
use Prim.Native.Nat.{◌-◌, ◌<◌}
use native.Mathlib.Omega.{arith}
use lib.ListN.{length}
use Rattle.text.specs.Over.{written_length}
use Rattle.card_lines.specs.Fronts.{Fronts, front}
use Rattle.card_reading.specs.Going.{At, at_start, at_out, at_refused, at_next, at_last}
use Rattle.card_reading.proofs.draft.Given as goal

abbrev pub invariant-loop-at : goal.invariant-loop-at
invariant-loop-at l = (length l.out ≡ length l.initial.out) × At l.text l.initial.out l.t l.at l.to l.out

abbrev pub decreases-loop-at : goal.decreases-loop-at
decreases-loop-at l = length l.text - l.at
