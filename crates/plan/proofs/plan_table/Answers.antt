-- The rounds are admitted.
use Rattle.std.proofs.Common.{sym, ◌∙◌}
use Rattle.plan.specs.Admit.{admit_sized}
use Rattle.plan.proofs.plan_table.Goals as goal

pub plan_rounds-requires : goal.plan_rounds-requires
plan_rounds-requires c = admit_sized _ _ _ c.requires (sym c.admit-admission.ensures ∙ c.in-Accepted.is)
