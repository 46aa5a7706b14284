-- `steps::step_effect` meets its contract: what it closes are the constraints of the step.
use Rattle.steps.specs.Raw.{raw_put, raw_closable, raw_tells}
use Rattle.table.specs.Steps.{step_fair}
use Rattle.table.specs.Step.{step_at}
use native.Mathlib.Omega.{arith}
use Rattle.steps.proofs.step_effect.Goals as goal

pub close-requires : goal.close-requires
close-requires c =
    let a = step_at c.args.t c.args.i in (
      omega arith,
      omega arith,
      raw_closable c.args.side c.requires.3 a (step_fair c.args.t c.requires.0 c.args.i c.requires.1) c.requires.2 _ _
          c.unbounded.ensures (raw_put c.args.side a _ _ _ c.clocks.ensures c.guards.ensures),
    )

pub returns : goal.returns
returns c =
    let a = step_at c.args.t c.args.i in
    raw_tells c.args.side c.requires.3 a (step_fair c.args.t c.requires.0 c.args.i c.requires.1) c.requires.2 _ _
    c.unbounded.ensures (raw_put c.args.side a _ _ _ c.clocks.ensures c.guards.ensures) _ _
    c.close.ensures
