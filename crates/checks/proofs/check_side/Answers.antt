use native.Mathlib.Omega.{arith}
use Rattle.checks.specs.SideChecks.{side_first, side_able, side_next, side_last}
use Rattle.checks.proofs.check_side.Goals as goal

pub loop-j-init : goal.loop-j-init
loop-j-init c = side_first _ _ _ _ _ _ _ _ _ _ c.requires.1

pub check_key-swept-requires : goal.check_key-swept-requires
check_key-swept-requires c =
    let l = c.loop-j in
    let t = c.if-clocks-j.false in
    let p = c.requires.0 in (
      p.few,
      p.past,
      omega (arith, t, p.clocks),
      side_able _ _ _ _ _ _ _ _ _ _ l.j _ _ _ l.invariant (omega (arith, t)),
    )

pub loop-j-preserved : goal.loop-j-preserved
loop-j-preserved c =
    let l = c.loop-j in
    side_next _ _ _ _ _ _ _ _ _ _ l.j _ _ _ l.invariant (omega (arith, c.if-clocks-j.false)) _ _ _ c.check_key-swept.ensures

pub returns-then-clocks-j : goal.returns-then-clocks-j
returns-then-clocks-j c = side_last _ _ _ _ _ _ _ _ _ _ _ _ _ _ c.loop-j.invariant (omega (arith, c.if-clocks-j.true))

pub returns-after-loop-j : goal.returns-after-loop-j
returns-after-loop-j c =
    side_last _ _ _ _ _ _ _ _ _ _ _ _ _ _ c.loop-j.invariant (omega (arith, c.loop-j-test.false, c.requires.0.clocks))
