-- `closing::sum` meets its contract: each return is a case of `sum_of`.
use mathlib.Core.Path.{sym, ◌∙◌}
use native.Mathlib.Decide.{ℕ_discrete}
use Rattle.basics.specs.Choice.{choose_yes, choose_no}
use Rattle.zones.specs.Codes.{sum_of}
use native.Mathlib.Omega.{arith}
use Rattle.closing.proofs.sum.Goals as goal

pub returns-then-e-eq-NONE : goal.returns-then-e-eq-NONE
unfolding sum_of
returns-then-e-eq-NONE c = sym (choose_yes (ℕ_discrete _ _) _ _ c.if-e-eq-NONE.true)

pub returns-then-f-eq-NONE : goal.returns-then-f-eq-NONE
unfolding sum_of
returns-then-f-eq-NONE c =
    sym
    (choose_no (ℕ_discrete _ _) _ _ c.if-e-eq-NONE.false
    ∙ choose_yes (ℕ_discrete _ _) _ _ c.if-f-eq-NONE.true)

pub returns : goal.returns
unfolding sum_of
returns c =
    sym
    (choose_no (ℕ_discrete _ _) _ _ c.if-e-eq-NONE.false
    ∙ choose_no (ℕ_discrete _ _) _ _ c.if-f-eq-NONE.false
    ∙ omega arith)
