-- The order demand of the step, its guards from below and from above, and those between two clocks, one after the other.
use Rattle.ways.specs.Forth.{going_placed}
use Rattle.ways.specs.Back.{going_led}
use Rattle.led_ways.specs.Home.{order_able, lower_able, upper_able, leads_able, step_went}
use Rattle.led_ways.proofs.led_step.Goals as goal

pub check-ordered-requires : goal.check-ordered-requires
check-ordered-requires c =
    let p = c.requires in
    order_able _ _ c.args.leads.now _ _ _ _ _ _ _ p.3 p.4 p.0.clocks p.2.size p.5 _ p.6 _ c.not_after.ensures

pub check_side-lowered-requires : goal.check_side-lowered-requires
check_side-lowered-requires c =
    let p = c.requires in (
      going_placed _ _ _ _ _ _ _ p.0 p.4 p.3,
      lower_able _ _ c.args.leads.now _ _ _ _ _ _ _ p.3 p.4 p.0.clocks p.2.size p.5 _ p.6 _ c.not_after.ensures _ _ _
          c.check-ordered.ensures,
    )

pub check_side-sided-requires : goal.check_side-sided-requires
check_side-sided-requires c =
    let p = c.requires in (
      going_placed _ _ _ _ _ _ _ p.1 p.4 p.3,
      upper_able _ _ c.args.leads.now _ _ _ _ _ _ _ p.3 p.4 p.0.clocks p.2.size p.5 _ p.6 _ c.not_after.ensures _ _ _
          c.check-ordered.ensures _ _ _ c.check_side-lowered.ensures,
    )

pub check_leads-swept-requires : goal.check_leads-swept-requires
check_leads-swept-requires c =
    let p = c.requires in (
      going_led _ _ _ _ _ _ _ _ p.1 p.2 p.4 p.3,
      leads_able _ _ c.args.leads.now _ _ _ _ _ _ _ p.3 p.4 p.0.clocks p.2.size p.5 _ p.6 _ c.not_after.ensures _ _ _
          c.check-ordered.ensures _ _ _ c.check_side-lowered.ensures _ _ _ c.check_side-sided.ensures,
    )

pub returns : goal.returns
returns c =
    let p = c.requires in
    step_went _ _ c.args.leads.now _ _ _ _ _ _ _ p.3 p.4 p.0.clocks p.2.size p.5 _ p.6 _ c.not_after.ensures _ _ _
    c.check-ordered.ensures _ _ _ c.check_side-lowered.ensures _ _ _ c.check_side-sided.ensures _ _ _ c.check_leads-swept.ensures
