use Rattle.std.proofs.Common.{◌≡◌, ◌∙◌, ◌-◌, rules, tests, List, drop, take, get_or}
use Rattle.std.proofs.lemmas.Iterator.{cases_from_any, YieldsList-from_slice}
use Rattle.table.specs.declared.Guard.{Guard}
use Rattle.leads.specs.Filling.{plain_guards}
use Rattle.leads.proofs.put_leads.Goals as goal

pub returns-else-any : goal.returns-else-any
returns-else-any c =
    let first = get_or c.args.t.ends 0 0 in
    let guards : List Guard = take (get_or c.args.t.ends c.args.t.steps 0 - first) (drop first c.args.t.guards) in
    let answer = cases_from_any _ _ _ (λ (g : Guard). g.second ≡ 0 → ⊥) (λ (g : Guard). g.second ≡ 0) c.any.ensures.ran (YieldsList-from_slice guards cc) (λ x q k. search (rules, tests)) (λ x q k. search (rules, tests)) in
    c.requires.2 ∙ plain_guards c.args.t c.requires.0 c.args.constants.now (rw c.if-any.false at answer)
