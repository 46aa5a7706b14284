-- `checks::lead_demand` meets its contract: what the constant adds or takes off, by its sign.
use Rattle.checks.specs.LeadChecks.{lead_plus, lead_minus}
use Rattle.checks.proofs.lead_demand.Goals as goal

pub returns-then-g : goal.returns-then-g
returns-then-g c =
    let a = c.args in
    lead_minus a.g a.constant a.z a.e a.second _ c.if-g.true c.guard_demand.ensures

pub returns : goal.returns
returns c =
    let a = c.args in
    lead_plus a.g a.constant a.z a.e a.second _ c.if-g.false c.guard_demand-2.ensures
