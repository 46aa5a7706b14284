-- The times begin with that of the start and are lowered; then the starts are told.
use Rattle.std.proofs.Common.{sym}
use Rattle.std.proofs.Math.Nat.{mod_self}
use Rattle.readout.specs.Late.{began_able, lowered_able, told_plain, told_led}
use Rattle.readout.proofs.write_starts.Goals as goal

pub descend-requires : goal.descend-requires
descend-requires c =
    let r = c.requires in (r.below, r.round, sym (mod_self _), began_able _ _ _ _ _ _ _ _ _ r _ c.begin.ensures)

pub returns-then-not-any_leads : goal.returns-then-not-any_leads
returns-then-not-any_leads c =
    told_plain _ _ _ _ _ _ _ _ _ c.requires _ c.begin.ensures _ _ c.descend.ensures _ c.any_leads.ensures c.if-not-any_leads.true
    _ c.tell.ensures

pub lower_led-requires : goal.lower_led-requires
lower_led-requires c =
    let r = c.requires in
    (r.below, r.above, r.led, r.whole, lowered_able _ _ _ _ _ _ _ _ _ r _ c.begin.ensures _ _ c.descend.ensures)

pub returns : goal.returns
returns c =
    told_led _ _ _ _ _ _ _ _ _ c.requires _ c.begin.ensures _ _ c.descend.ensures _ _ c.lower_led.ensures c.tell-2.ensures
