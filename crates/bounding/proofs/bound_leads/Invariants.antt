-- The invariant: the guards from place k on are left.
use Rattle.sweeps.specs.Order.{leads_at}
use Rattle.leads.specs.Leads.{led_by}
use Rattle.lowering.specs.Lowered.{bounds}
use Rattle.checks.specs.Led.{leads_from}
use Rattle.bounding.specs.Turns.{Turn}
use Rattle.bounding.proofs.bound_leads.Given as goal

abbrev pub invariant-loop-k : goal.invariant-loop-k
invariant-loop-k l =
    Turn (leads_at (led_by l.leads) l.far l.total l.s l.i) (bounds l.initial.late l.low) (leads_from l.leads l.far l.total l.s l.i l.k) (bounds l.late l.lowest)
