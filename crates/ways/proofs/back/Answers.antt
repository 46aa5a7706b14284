use mathlib.Core.Path.{sym}
use native.Mathlib.Omega.{arith}
use Rattle.checks.specs.Turns.{turn_first}
use Rattle.ways.specs.Forth.{going_placed}
use Rattle.ways.specs.Back.{step_back, upper_able, back_next, back_last}
use Rattle.ways.proofs.back.Goals as goal

pub loop-i-init : goal.loop-i-init
loop-i-init c = let g = c.requires in (turn_first _ _ _ _ g.2, sym g.1)

pub check_side-swept-requires : goal.check_side-swept-requires
check_side-swept-requires c =
    let l = c.loop-i in
    let p = c.requires.0 in
    let e = step_back l.i _ _ _ p.some (omega arith) l.invariant.1 c.preceding-s.ensures in
    (going_placed _ _ _ _ _ _ _ p e (omega arith), upper_able _ _ _ _ _ _ _ _ _ l.i (omega arith) _ _ _ l.invariant.0 _ e)

pub loop-i-preserved : goal.loop-i-preserved
loop-i-preserved c =
    let l = c.loop-i in
    let e = step_back l.i _ _ _ c.requires.0.some (omega arith) l.invariant.1 c.preceding-s.ensures in
    (back_next _ _ _ _ _ _ _ _ _ l.i (omega arith) _ _ _ l.invariant.0 _ e _ _ _ c.check_side-swept.ensures, e)

pub returns : goal.returns
returns c = back_last _ _ _ _ _ _ _ _ _ _ _ _ (omega arith) c.loop-i.invariant.0
