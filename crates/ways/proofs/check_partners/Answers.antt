use native.Mathlib.Omega.{arith}
use Rattle.ways.specs.Clocks.{clocks_first, clocks_able, clocks_next, clocks_last}
use Rattle.ways.specs.Partners.{partners_by, skipped}
use Rattle.ways.proofs.check_partners.Goals as goal

pub returns-then-partners-eq0 : goal.returns-then-partners-eq0
returns-then-partners-eq0 c =
    let s = c.args in
    skipped s.start _ _ _ _ _ (omega (arith, c.partners.ensures, c.if-partners-eq0.true))

pub loop-clock-init : goal.loop-clock-init
loop-clock-init c = clocks_first (partners_by _ _) _ _ _ _ c.requires.2

pub check_partner-swept-requires : goal.check_partner-swept-requires
check_partner-swept-requires c =
    let l = c.loop-clock in
    clocks_able (partners_by _ _) _ _ _ _ l.clock _ _ _ l.invariant (omega arith) _ c.partner_of-partner.ensures

pub loop-clock-preserved : goal.loop-clock-preserved
loop-clock-preserved c =
    let l = c.loop-clock in
    clocks_next (partners_by _ _) _ _ _ _ l.clock _ _ _ l.invariant (omega arith) _
    c.partner_of-partner.ensures _ _ _ c.check_partner-swept.ensures

pub returns : goal.returns
returns c = clocks_last (partners_by _ _) _ _ _ _ _ _ _ _ c.loop-clock.invariant (omega arith)
