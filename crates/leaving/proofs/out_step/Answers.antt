-- The order demand of the step and its guards from above, and the way forth where they raise an earlier step.
use mathlib.Core.Path.{refl}
use native.Mathlib.Omega.{arith}
use Rattle.ways.specs.Forth.{going_placed}
use Rattle.leaving.specs.Leaving.{order_able, upper_able, turned_few, turned_went, forth_able, step_went}
use Rattle.leaving.proofs.out_step.Goals as goal

pub check-ordered-requires : goal.check-ordered-requires
check-ordered-requires c =
    let p = c.requires in
    order_able _ _ _ _ _ _ _ _ _ p.2 p.3 p.0.clocks p.0.few p.4 _ p.5 _ c.not_after.ensures

pub check_side-swept-requires : goal.check_side-swept-requires
check_side-swept-requires c =
    let p = c.requires in (
      going_placed _ _ _ _ _ _ _ p.1 p.3 p.2,
      upper_able _ _ _ _ _ _ _ _ _ p.2 p.3 p.0.clocks p.0.few p.4 _ p.5 _ c.not_after.ensures _ _ _ c.check-ordered.ensures,
    )

pub returns-then-i-found : goal.returns-then-i-found
returns-then-i-found c =
    let p = c.requires in
    let w = turned_went _ _ _ _ _ _ _ _ _ p.2 p.3 p.0.clocks p.0.few p.4 _ p.5 _ c.not_after.ensures _ _ _ c.check-ordered.ensures _ _ _
    c.check_side-swept.ensures in
    (w.0, w.1, omega arith)

pub forth_from-requires : goal.forth_from-requires
forth_from-requires c =
    let p = c.requires in (
      p.0,
      omega arith,
      omega arith,
      refl,
      omega (
        arith,
        p.4,
        turned_few _ _ _ _ _ _ _ _ _ p.2 p.3 p.0.clocks p.0.few p.4 _ p.5 _ c.not_after.ensures _ _ _ c.check-ordered.ensures _ _ _
            c.check_side-swept.ensures,
      ),
      forth_able _ _ _ _ _ _ _ _ _ p.2 p.3 p.0.clocks p.0.few p.4 _ p.5 _ c.not_after.ensures _ _ _ c.check-ordered.ensures _ _ _
          c.check_side-swept.ensures,
    )

pub returns : goal.returns
returns c =
    let p = c.requires in
    let w = step_went _ _ _ _ _ _ _ _ _ p.2 p.3 p.0.clocks p.0.few p.4 _ p.5 _ c.not_after.ensures _ _ _ c.check-ordered.ensures _ _ _
    c.check_side-swept.ensures _ _ c.forth_from.ensures.0 in
    (w.0, w.1, c.forth_from.ensures.1)
