use Rattle.joins.specs.Round.{step_uses, steps_first, round_stuck}
use Rattle.joins.specs.Keeping.{kept_here}
use Rattle.effects.specs.Tells.{tells_runs}
use Rattle.table.specs.Step.{steps_of}
use Prim.Native.Nat.{◌+◌}
use mathlib.Core.Path.{◌≡◌}
use native.Mathlib.Omega.{arith}
use Rattle.joins.proofs.round_effect.Goals as goal

pub step_effect-requires : goal.step_effect-requires
step_effect-requires c = (
  c.requires.2,
  c.requires.2.steps_some,
  step_uses _ c.args.t c.requires.4 _ c.requires.2.steps_some,
  c.requires.3,
  c.requires.1,
)

pub returns-then-not-step_effect : goal.returns-then-not-step_effect
returns-then-not-step_effect c =
    round_stuck c.args.t 1 c.requires.2.steps_some
    (rw (steps_first c.args.t) (c.step_effect.ensures.stuck c.if-not-step_effect.true))

pub loop-i-init : goal.loop-i-init
loop-i-init c =
    rw (steps_first c.args.t)
    (kept_here c.args.side c.requires.3 0 c.keep.ensures (c.step_effect.ensures.runs c.if-not-step_effect.false))

pub returns-then-not-step_more : goal.returns-then-not-step_more
returns-then-not-step_more c =
    round_stuck c.args.t (c.loop-i.i + 1) (omega arith) (c.step_more.ensures.stuck c.if-not-step_more.true)

pub returns : goal.returns
unfolding steps_of
returns c =
    let e : c.loop-i.i ≡ c.args.t.steps = omega (arith, c.requires.2.steps_some) in
    tells_runs (rw e at c.loop-i.invariant)
