-- The refusal is the reader's, and the answer that of the table.
use Rattle.std.proofs.Common.{sym, ◌∙◌, arith}
use Rattle.plan.specs.Admit.{refused_answers, counted_tabled, counted_answers}
use Rattle.plan.proofs.plan.Goals as goal

pub plan_table-requires : goal.plan_table-requires
plan_table-requires c =
    counted_tabled _ (λ i. omega (arith, c.type_inv.bytes i)) _ _ _ (sym c.parse-parsed.ensures.0 ∙ c.in-Counted.is)
    _ c.parse-parsed.ensures.1

pub returns-in-Refused : goal.returns-in-Refused
returns-in-Refused c = refused_answers _ _ _ _ _ (sym c.parse-parsed.ensures.0 ∙ c.in-Refused.is)

pub returns-in-Counted : goal.returns-in-Counted
returns-in-Counted c =
    counted_answers _ (λ i. omega (arith, c.type_inv.bytes i)) _ _ _ (sym c.parse-parsed.ensures.0 ∙ c.in-Counted.is)
    _ c.parse-parsed.ensures.1 _ _ _ _ _ c.plan_table.ensures
