-- `checks::check_pair` meets its contract: the first demand, and the second where there are two.
use mathlib.Core.Path.{sym, ◌∙◌}
use Rattle.checks.specs.LeadChecks.{first_able, second_able, twice_checked}
use Rattle.checks.proofs.check_pair.Goals as goal

pub check-swept-requires : goal.check-swept-requires
check-swept-requires c = first_able c.args.g.relation _ _ c.args.z c.args.e _ c.lead_demand-first.ensures _ _ c.requires

pub check-requires : goal.check-requires
check-requires c =
    second_able c.args.g.relation _ _ c.args.z c.args.e _ c.lead_demand-first.ensures (sym c.twice.ensures ∙ c.if-not-twice.false) _ c.lead_demand-second.ensures _ _ _ _ _ _ c.check-swept.ensures c.requires

pub returns : goal.returns
returns c =
    twice_checked c.args.g.relation _ _ c.args.z c.args.e _ c.lead_demand-first.ensures (sym c.twice.ensures ∙ c.if-not-twice.false) _ c.lead_demand-second.ensures _ _ _ _ _ _ c.check-swept.ensures _ _ _ c.check.ensures
