use mathlib.Core.Path.{sym}
use native.Mathlib.Nat.{mod-eq_of_lt}
use native.Mathlib.Omega.{arith}
use Rattle.ways.specs.Forth.{step_forth, going_placed, forth_first, order_able, lower_able, forth_next, forth_last}
use Rattle.ways.proofs.forth.Goals as goal

pub loop-i-init : goal.loop-i-init
loop-i-init c =
    let g = c.requires in (forth_first _ _ _ _ _ _ _ _ g.1, sym (mod-eq_of_lt g.0.some))

pub check-ordered-requires : goal.check-ordered-requires
check-ordered-requires c =
    let l = c.loop-i in
    order_able _ _ _ _ _ _ _ _ l.i _ _ _ l.invariant.0 (omega arith) _ l.invariant.1 _ c.not_after.ensures

pub check_side-swept-requires : goal.check_side-swept-requires
check_side-swept-requires c =
    let l = c.loop-i in (
      going_placed _ _ _ _ _ _ _ c.requires.0 l.invariant.1 (omega arith),
      lower_able _ _ _ _ _ _ _ _ l.i _ _ _ l.invariant.0 (omega arith) _ l.invariant.1 _ c.not_after.ensures
          _ _ _ c.check-ordered.ensures,
    )

pub loop-i-preserved : goal.loop-i-preserved
loop-i-preserved c =
    let l = c.loop-i in (
      forth_next _ _ _ _ _ _ _ _ l.i _ _ _ l.invariant.0 (omega arith) _ l.invariant.1 _ c.not_after.ensures
          _ _ _ c.check-ordered.ensures _ _ _ c.check_side-swept.ensures,
      step_forth l.i _ _ _ c.requires.0.some l.invariant.1 c.following-s.ensures,
    )

pub returns : goal.returns
returns c = forth_last _ _ _ _ _ _ _ _ _ _ _ _ c.loop-i.invariant.0 (omega arith)
