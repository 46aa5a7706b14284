-- `steps::guard` meets its contract: the first demand, and the second where there are two.
use native.Mathlib.Omega.{arith}
use mathlib.Core.Path.{sym, ◌∙◌}
use mathlib.Core.Bool.{true, false}
use Rattle.steps.specs.Fetch.{guard_short, once_put, twice_put}
use Rattle.steps.proofs.guard.Goals as goal

pub put-requires : goal.put-requires
put-requires c = (c.requires.4, guard_short c.args.g c.requires.0 c.args.side c.requires.1 c.requires.3 _ _ _ c.end-e.ensures.1 c.up_of-up.ensures c.down_of-down.ensures _ false c.guard_demand-first.ensures)

pub returns-then-not-twice : goal.returns-then-not-twice
returns-then-not-twice c =
    once_put c.args.g c.requires.0 c.args.side c.requires.1 c.requires.3 _ _ _ c.end-e.ensures.1 c.up_of-up.ensures c.down_of-down.ensures c.end-e.ensures.0 _ _ _ c.guard_demand-first.ensures
    (sym c.twice.ensures ∙ c.if-not-twice.true) c.put.ensures

pub put-requires-2 : goal.put-requires-2
put-requires-2 c = (omega arith, guard_short c.args.g c.requires.0 c.args.side c.requires.1 c.requires.3 _ _ _ c.end-e.ensures.1 c.up_of-up.ensures c.down_of-down.ensures _ true c.guard_demand-second.ensures)

pub returns : goal.returns
returns c =
    twice_put c.args.g c.requires.0 c.args.side c.requires.1 c.requires.3 _ _ _ c.end-e.ensures.1 c.up_of-up.ensures c.down_of-down.ensures c.end-e.ensures.0 _ _ _ _ _ c.guard_demand-first.ensures
    c.guard_demand-second.ensures (sym c.twice.ensures ∙ c.if-not-twice.false)
    c.put.ensures c.put-2.ensures
