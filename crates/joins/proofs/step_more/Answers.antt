-- `joins::step_more` meets its contract: the step has no run, or its effect is joined to that of the steps before it.
use Rattle.joins.specs.Round.{step_uses, more_stuck, more_joinable, more_tells}
use Rattle.joins.specs.Keeping.{kept_here, kept_other}
use Rattle.effects.specs.Describes.{Describes}
use Rattle.effects.specs.Tells.{Tells, tells_stuck, tells_runs}
use Rattle.effects.specs.Whole.{whole}
use Rattle.gluing.specs.Laying.{effect_at}
use Rattle.table.specs.Step.{step_at, steps_from}
use Rattle.zones.specs.Cells.{matrix}
use Rattle.std.proofs.Common.{arith, [], ◌∷◌, ◌+◌}
use Rattle.joins.proofs.step_more.Goals as goal
use Rattle.joins.proofs.step_more.Goals.{After-keep, After-join}

-- Both effects are in the row,
before : (c : After-keep) → Describes (steps_from c.args.t 0 c.args.i) (whole c.args.side (effect_at c.keep.new.row 0))
before c = kept_other c.args.side c.requires.3 1 c.keep.ensures 0 (omega arith) c.requires.7

here : (c : After-keep) → Describes (step_at c.args.t c.args.i ∷ []) (whole c.args.side (effect_at c.keep.new.row 196))
here c =
    kept_here c.args.side c.requires.3 1 c.keep.ensures (c.step_effect.ensures.runs c.if-not-step_effect.false)

-- and are joined.
both : (c : After-join)
    → Tells (steps_from c.args.t 0 (c.args.i + 1)) c.join.result (whole c.args.side (matrix c.join.new.out))
both c =
    let k = (goal.at.After-join c).After-keep in
    more_tells c.args.side c.requires.3 c.args.t c.requires.2 c.args.i c.requires.5 c.requires.6 _ _ (before k) (here k) _ _
    c.join.ensures

pub step_effect-requires : goal.step_effect-requires
step_effect-requires c =
    (c.requires.2, c.requires.6, step_uses _ c.args.t c.requires.4 _ c.requires.6, c.requires.3, c.requires.1)

pub returns-then-not-step_effect : goal.returns-then-not-step_effect
returns-then-not-step_effect c =
    more_stuck c.args.t c.args.i (c.step_effect.ensures.stuck c.if-not-step_effect.true)

pub join-requires : goal.join-requires
join-requires c =
    let k = (goal.at.join-requires c).After-keep in
    let q = more_joinable c.args.side c.requires.3 c.args.t c.requires.2 c.args.i c.requires.5 c.requires.6 _ _ (before k) (here k) in
    (omega arith, omega arith, c.requires.3, omega arith, omega arith, q.0, q.1)

pub returns-then-not-join : goal.returns-then-not-join
returns-then-not-join c = tells_stuck ((both (goal.at.returns-then-not-join c).After-join).stuck c.if-not-join.true)

pub returns : goal.returns
returns c =
    tells_runs
    (kept_here c.args.side c.requires.3 0 c.keep-2.ensures
    ((both (goal.at.returns c).After-join).runs c.if-not-join.false))
