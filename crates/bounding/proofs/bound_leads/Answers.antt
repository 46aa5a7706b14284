use Rattle.std.proofs.Common.{arith}
use Rattle.bounding.specs.Lead.{led_first, led_able, led_next, led_last}
use Rattle.bounding.proofs.bound_leads.Goals as goal

pub loop-k-init : goal.loop-k-init
loop-k-init c = led_first _ _ _ _ _ _ c.requires.1

pub bound_lead-lowest-requires : goal.bound_lead-lowest-requires
bound_lead-lowest-requires c =
    let l = c.loop-k in
    let q = c.requires.0 in
    (q.reached, q.few, q.step, q.past, led_able _ _ _ _ _ _ q l.k _ l.invariant c.loop-k-test.true)

pub loop-k-preserved : goal.loop-k-preserved
loop-k-preserved c =
    let l = c.loop-k in
    led_next _ _ _ _ _ _ c.requires.0 l.k _ l.invariant c.loop-k-test.true _ c.bound_lead-lowest.ensures

pub returns : goal.returns
returns c =
    let l = c.loop-k in
    led_last _ _ _ _ _ _ c.requires.0 l.k _ l.invariant (omega (arith, l.auto.k-end, c.requires.0.order, c.loop-k-test.false))
