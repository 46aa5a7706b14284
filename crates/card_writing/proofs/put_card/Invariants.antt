-- The invariant: what is written, and then the text of the records left, is the card.
use borrow.Author.Rules.{rules}
use mathlib.Core.Path.{◌≡◌, refl, ◌∙◌, ap}
use Prim.Native.Nat.{◌+◌, ◌-◌}
use lib.ListN.{length}
use Rattle.records.specs.Rules.{body_size}
use Rattle.wire.specs.Records.{records_at}
use Rattle.cards.specs.Convert.{text_of, card_of}
use Rattle.card_writing.specs.Lines.{text_next, text_none}
use Rattle.text.specs.Begun.{Begun, begun_none, begun_more, begun_all, begun_fits}
use Rattle.card_writing.proofs.put_card.Given as goal

abbrev pub invariant-loop-at : goal.invariant-loop-at
invariant-loop-at l =
    (length l.out ≡ length l.initial.out) × Begun l.initial.out (card_of l.bytes) (text_of (records_at l.bytes l.at)) l.out l.to

abbrev pub decreases-loop-at : goal.decreases-loop-at
decreases-loop-at l = length l.bytes - l.at
