-- The first demand, and the second where there are two.
use Rattle.std.proofs.Common.{sym, ◌∙◌}
use Rattle.bounding.specs.Lead.{first_able, second_able, twice_after}
use Rattle.bounding.proofs.bound_pair.Goals as goal

pub bound-lowest-requires : goal.bound-lowest-requires
bound-lowest-requires c =
    let a = c.args in
    first_able a.g.relation _ _ a.z a.e _ c.lead_demand-first.ensures (record { late = a.late.now; low = a.low }) c.requires

pub bound-requires : goal.bound-requires
bound-requires c =
    let a = c.args in
    let two = sym c.twice.ensures ∙ c.if-not-twice.false in
    second_able a.g.relation _ _ a.z a.e _ c.lead_demand-first.ensures _ two _ c.lead_demand-second.ensures _ c.bound-lowest.ensures c.requires

pub returns : goal.returns
returns c =
    let a = c.args in
    let two = sym c.twice.ensures ∙ c.if-not-twice.false in
    twice_after a.g.relation _ _ a.z a.e _ c.lead_demand-first.ensures _ two _ c.lead_demand-second.ensures _ c.bound-lowest.ensures c.requires _ c.bound.ensures
