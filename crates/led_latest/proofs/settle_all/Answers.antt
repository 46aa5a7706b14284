-- With guards between two clocks, or without.
use Rattle.led_latest.specs.Steps.{plain_bounded, plain_greatest}
use Rattle.led_latest.proofs.settle_all.Goals as goal

pub settle-requires : goal.settle-requires
settle-requires c =
    let p = c.requires in (
      p.0,
      p.1,
      p.3,
      plain_bounded _ _ c.args.leads.now _ _ _ _ p.0.some p.2 _ c.any_leads.ensures c.if-any_leads.false _ _ p.4,
    )

pub returns : goal.returns
returns c =
    let p = c.requires in
    plain_greatest _ _ c.args.leads.now _ _ _ _ p.0.some p.2 _ c.any_leads.ensures c.if-any_leads.false _ _ _ c.settle.ensures
