-- `stretches::outside` meets its contract.
use mathlib.Core.Path.{refl, sym, subst, ◌∙◌}
use Rattle.stretches.specs.declared.Part.TheVariants as part
use Rattle.stretches.specs.Parts.{same, Reads}
use Rattle.stretches.specs.Outside.{found_first, found_unfinished, found_close, found_item}
use Rattle.stretches.proofs.outside.Goals as goal

pub returns-then-at-eq0 : goal.returns-then-at-eq0
returns-then-at-eq0 c =
    subst (Reads c.args.bytes.now c.args.t c.args.at 0 same) (sym c.stop.ensures) (found_first c.args.bytes.now c.args.at c.args.t c.requires c.if-at-eq0.true)

pub byte_in-requires : goal.byte_in-requires
byte_in-requires c = c.requires.here

pub returns-then-t-ne0 : goal.returns-then-t-ne0
returns-then-t-ne0 c =
    let why = c.unfinished.ensures in
    subst (Reads c.args.bytes.now c.args.t c.args.at 0 same)
    (sym (c.stop-then-t-ne0.ensures ∙ (λ i. part.Refused (record { fault = why i; place = c.args.at }))))
    (found_unfinished _ _ _ c.requires c.if-at-eq0.false c.if-t-ne0.true _ _ c.byte_in.ensures.0 refl)

pub byte_in-requires-2 : goal.byte_in-requires-2
byte_in-requires-2 c = c.requires.here

pub returns-then-byte_in-eq8 : goal.returns-then-byte_in-eq8
returns-then-byte_in-eq8 c =
    subst (Reads c.args.bytes.now c.args.t c.args.at 0 same) (sym c.stop-then-byte_in-eq8.ensures)
    (found_close _ _ _ c.requires c.if-at-eq0.false c.if-t-ne0.false
    (sym c.byte_in-2.ensures.0 ∙ c.if-byte_in-eq8.true))

pub read_item-requires : goal.read_item-requires
read_item-requires c =
    found_item c.args.bytes.now c.args.at c.args.t c.requires c.if-at-eq0.false c.if-t-ne0.false (λ e. c.if-byte_in-eq8.false (c.byte_in-2.ensures.0 ∙ e))

pub returns : goal.returns
returns c = c.read_item.ensures
