use borrow.Author.Rules.{rules}
use mathlib.Core.Path.{◌≡◌, refl, ◌∙◌, ap}
use Prim.Native.Nat.{◌+◌, ◌-◌}
use lib.ListN.{length}
use Rattle.records.specs.Rules.{body_size}
use Rattle.wire.specs.Records.{records_at}
use Rattle.cards.specs.Convert.{text_of, card_of}
use Rattle.card_writing.specs.Lines.{text_next, text_none}
use Rattle.text.specs.Begun.{Begun, begun_none, begun_more, begun_all, begun_fits}
use Rattle.card_writing.proofs.put_card.Goals as goal

pub loop-at-init : goal.loop-at-init
unfolding card_of
loop-at-init c = (refl, begun_none _ _)

pub put_record-to-requires : goal.put_record-to-requires
put_record-to-requires c = let fits = begun_fits c.loop-at.invariant.1 in search rules

pub loop-at-preserved : goal.loop-at-preserved
loop-at-preserved c =
    let bytes = c.args.bytes.now in
    let next = ap (λ n. c.loop-at.at + 1 + n) (c.body_size.ensures.0 ∙ ap body_size c.byte_in.ensures.0) in
    (search rules, begun_more (text_next bytes c.loop-at.at _ next c.loop-at-test.true) c.loop-at.invariant.1 c.put_record-to.ensures)

pub returns : goal.returns
returns c =
    begun_all (text_none c.args.bytes.now c.loop-at.at c.loop-at-test.false) c.loop-at.invariant.1
