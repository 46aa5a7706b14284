use mathlib.Core.Path.{sym}
use native.Mathlib.Nat.{mod-eq_of_lt}
use native.Mathlib.Omega.{arith}
use Rattle.led_ways.specs.Home.{homeward_first, homeward_able, homeward_next}
use Rattle.led_ways.proofs.home_led.Goals as goal

pub loop-i-init : goal.loop-i-init
loop-i-init c = homeward_first _ _ _ _ _ _ _ _ _ _ (sym (mod-eq_of_lt c.requires.0.some))

pub led_step-come-requires : goal.led_step-come-requires
led_step-come-requires c =
    let p = c.requires in (
      p.0,
      p.1,
      p.2,
      c.loop-i-test.true,
      c.loop-i.invariant.step,
      omega arith,
      homeward_able _ _ _ _ _ _ _ _ _ _ _ _ _ c.loop-i.invariant p.4,
    )

pub loop-i-preserved : goal.loop-i-preserved
loop-i-preserved c =
    homeward_next _ _ _ _ _ _ _ _ _ _ _ _ _ c.loop-i.invariant (omega arith) _ _ _ _
    c.led_step-come.ensures.0 c.step_of-s.ensures
