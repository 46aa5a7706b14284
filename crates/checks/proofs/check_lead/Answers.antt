-- `checks::check_lead` meets its contract: a guard without a second clock has no check.
use Rattle.checks.specs.LedChecks.{lead_skipped, lead_able, lead_checked}
use native.Mathlib.Omega.{arith}
use Rattle.checks.proofs.check_lead.Goals as goal

pub returns-then-b-eq0 : goal.returns-then-b-eq0
returns-then-b-eq0 c =
    lead_skipped c.args.code _ _ (omega (arith, c.if-b-eq0.true)) _ _ _

pub check_pair-requires : goal.check_pair-requires
check_pair-requires c =
    lead_able c.args.code _ _ (λ e. c.if-b-eq0.false (omega (arith, e))) _ c.guard_at-g.ensures _ _ c.last_reset-z.ensures c.last_reset-e.ensures _ _ c.requires.4

pub returns : goal.returns
returns c =
    lead_checked c.args.code _ _ (λ e. c.if-b-eq0.false (omega (arith, e))) _ c.guard_at-g.ensures _ _ c.last_reset-z.ensures c.last_reset-e.ensures _ _ _ _ _ _ c.check_pair.ensures
