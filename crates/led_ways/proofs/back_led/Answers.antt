use mathlib.Core.Path.{sym}
use Rattle.checks.specs.Turns.{turn_first}
use Rattle.ways.specs.Forth.{going_placed}
use Rattle.ways.specs.Back.{step_back, going_led}
use Rattle.led_ways.specs.Back.{upper_able, leads_able, back_next, back_last}
use native.Mathlib.Omega.{arith}
use Rattle.led_ways.proofs.back_led.Goals as goal

pub loop-i-init : goal.loop-i-init
loop-i-init c =
    let g = c.requires in (turn_first _ _ _ _ g.3, sym g.2)

pub check_side-sided-requires : goal.check_side-sided-requires
check_side-sided-requires c =
    let l = c.loop-i in
    let e = step_back l.i _ _ _ c.requires.0.some (omega arith) l.invariant.1 c.preceding-s.ensures in (
      going_placed _ _ _ _ _ _ _ c.requires.0 e (omega arith),
      upper_able _ _ _ _ _ _ _ _ _ _ l.i (omega arith) _ _ _ l.invariant.0 _ e,
    )

pub check_leads-swept-requires : goal.check_leads-swept-requires
check_leads-swept-requires c =
    let l = c.loop-i in
    let e = step_back l.i _ _ _ c.requires.0.some (omega arith) l.invariant.1 c.preceding-s.ensures in (
      going_led _ _ _ _ _ _ _ _ c.requires.0 c.requires.1 e (omega arith),
      leads_able _ _ _ _ _ _ _ _ _ _ l.i (omega arith) _ _ _ l.invariant.0 _ e _ _ _ c.check_side-sided.ensures,
    )

pub loop-i-preserved : goal.loop-i-preserved
loop-i-preserved c =
    let l = c.loop-i in
    let e = step_back l.i _ _ _ c.requires.0.some (omega arith) l.invariant.1 c.preceding-s.ensures in (
      back_next _ _ _ _ _ _ _ _ _ _ l.i (omega arith) _ _ _ l.invariant.0 _ e _ _ _ c.check_side-sided.ensures _ _ _ c.check_leads-swept.ensures,
      e,
    )

pub returns : goal.returns
returns c =
    back_last _ _ _ _ _ _ _ _ _ c.loop-i.i _ _ _ (omega arith) c.loop-i.invariant.0
