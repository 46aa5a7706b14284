use Rattle.std.proofs.Common.{◌≡◌, false, arith}
use Rattle.table.specs.declared.Guard.{Guard}
use Rattle.table.specs.declared.Relation.TheVariants.{Under}
use Rattle.sides.specs.Filled.{guard_here, filled_guard, filled_step}
use Rattle.sides.proofs.put_step.Goals as goal

-- what is read past the last guard
abbrev unread : Guard
unread = record { clock = 0; second = 0; relation = Under; minus = false; constant = 0 }

pub bounds-row-at : goal.bounds-row-at
bounds-row-at c =
    let fair = guard_here c.args.upper c.args.t.now c.requires.0 c.args.constants.now _ _ _ c.loop-i.invariant c.requires.2 c.loop-i-test.true unread in
    omega (arith, fair.last)

pub bounds-row-at-in-loop-i : goal.bounds-row-at-in-loop-i
bounds-row-at-in-loop-i c =
    let fair = guard_here c.args.upper c.args.t.now c.requires.0 c.args.constants.now _ _ _ c.loop-i.invariant c.requires.2 c.loop-i-test.true unread in
    omega (arith, fair.last)

pub loop-i-preserved : goal.loop-i-preserved
loop-i-preserved c =
    filled_guard c.args.upper c.args.t.now c.requires.0 c.args.constants.now _ _ _ c.loop-i.invariant c.requires.2 c.loop-i-test.true _ _ _
    c.solo_key.ensures c.min.ensures

pub returns : goal.returns
returns c =
    let end : c.loop-i.i ≡ _ = omega arith in
    rw end at (filled_step c.args.upper c.args.t.now c.requires.0 c.args.constants.now _ _ _ c.loop-i.invariant c.requires.2 c.loop-i-test.false)
