-- The invariant: the guards from place k on are left.
use Rattle.sweeps.specs.Order.{leads_at}
use Rattle.leads.specs.Leads.{led_by}
use Rattle.paths.specs.State.{state}
use Rattle.checks.specs.Turns.{Turn}
use Rattle.checks.specs.Led.{leads_from}
use Rattle.checks.proofs.check_leads.Given as goal

abbrev pub invariant-loop-k : goal.invariant-loop-k
invariant-loop-k l =
    Turn (leads_at (led_by l.leads) l.far l.total l.s l.i) l.initial.swept.raised l.initial.swept.stamp (state l.initial.time l.initial.parent l.initial.stamp)
    (leads_from l.leads l.far l.total l.s l.i l.k) l.swept.raised l.swept.stamp (state l.time l.parent l.stamp)
