use Rattle.steps.specs.Fetch.{guards_taken, guards_given, guards_next, guards_all}
use mathlib.Core.Path.{◌∙◌}
use native.Mathlib.Omega.{arith}
use Rattle.steps.proofs.guards.Goals as goal

pub guard-requires : goal.guard-requires
guard-requires c =
    let taken = guards_taken c.args.t c.args.i (c.requires.0.order c.args.i c.requires.1) in
    let g = guards_given c.args.t c.args.i c.args.side c.requires.0 c.requires.1 c.requires.2 _ taken c.loop-g.g-index _ c.loop-g-test.true in
    (g.0, g.1, g.2, c.requires.3, omega arith)

pub loop-g-preserved : goal.loop-g-preserved
loop-g-preserved c =
    guards_next c.args.side c.loop-g.g-index _ _ c.loop-g.cells _ c.loop-g-test.true c.guard.ensures ∙ c.loop-g.invariant

pub returns : goal.returns
returns c =
    let taken = guards_taken c.args.t c.args.i (c.requires.0.order c.args.i c.requires.1) in
    rw (← taken) (guards_all c.args.side c.loop-g.g-index _ c.loop-g.cells _ (omega arith) c.loop-g.invariant)
