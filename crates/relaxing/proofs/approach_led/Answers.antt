-- Nothing, or a way home, after the last of which the stamps are taken away.
use mathlib.Core.Path.{refl}
use native.Mathlib.Omega.{arith}
use Rattle.ways.specs.Steps.{went_none}
use Rattle.relaxing.specs.Ending.{home_cleared, approached_near, approached_clear}
use Rattle.relaxing.proofs.approach_led.Goals as goal

pub returns-then-m-eq0 : goal.returns-then-m-eq0
returns-then-m-eq0 c = approached_near _ _ _ _ _ _ _ (omega arith) (went_none _ _ _ _)

pub returns : goal.returns
returns c =
    approached_clear _ _ _ _ _ _ _ (omega arith)
    (home_cleared _ _ _ _ _ _ _ _ _ c.home_led-near.ensures c.fill.ensures) refl
