-- The partners of the start demands, clock by clock, when there are K steps.
use Rattle.std.specs.Prelude.{◌≡◌, refl, Bool, List, [], ◌∷◌, ◌++◌, map, ℕ, zero, suc, length}
use Rattle.std.proofs.Common.{sym, ap, subst, ◌∙◌, arith}
use Rattle.runs.specs.declared.Demand.{Demand}
use Rattle.runs.specs.declared.Start.{Start}
use Rattle.runs.specs.Demand.{Starts, moved, starts_of}
use Rattle.constraints.specs.declared.Partner.{Partner}
use Rattle.constraints.specs.declared.Partner.TheVariants.{One, None}
use Rattle.constraints.specs.Partner.{partner_list, partners_of, partners_are}
use Rattle.sweeps.specs.Order.{partners_from, partners_none, partners_more}
use Rattle.paths.specs.State.{State}
use Rattle.checks.specs.Checks.{Checkable, Checked, checked_none}
use Rattle.ways.specs.Clocks.{ByClock}

pub partners_by : (K : ℕ) (D : Starts) → ByClock (partners_from K D) (λ j. map (moved K) (D j))
partners_by K D = record { none = partners_none K D; more = partners_more K D }

-- ---- one partner, or none
module _ (p : Partner) where
  pub one_able : (d : Demand) → p ≡ One d → (s : State) (q : ℕ) → Checkable (partner_list p) s q → Checkable (d ∷ []) s q
  one_able d e s q = subst (λ r. Checkable (partner_list r) s q) e

  pub one_checked : (d : Demand) → p ≡ One d → (h : Bool) (q : ℕ) (s s' : State) (h' : Bool) (q' : ℕ)
      → Checked (d ∷ []) h q s s' h' q' → Checked (partner_list p) h q s s' h' q'
  one_checked d e h q s s' h' q' = subst (λ r. Checked (partner_list r) h q s s' h' q') (sym e)

  pub none_checked : p ≡ None → (h : Bool) (q : ℕ) (s : State) → Checked (partner_list p) h q s s h q
  none_checked e h q s = subst (λ r. Checked (partner_list r) h q s s h q) (sym e) (checked_none h q s)

-- ---- a variant that has none
empty : {A : Type 0} (l : List A) → length l ≡ 0 → l ≡ []
empty [] e = refl
empty (x ∷ l) e = absurd (omega arith)

none_from : (v : Start) (K j n : ℕ) → partners_of v ≡ 0 → partners_from K (starts_of v) j n ≡ []
none_from v K j zero e = partners_none K (starts_of v) j
none_from v K j (suc n) e =
    partners_more K (starts_of v) j n
    ∙ ap (λ ds. map (moved K) ds ++ partners_from K (starts_of v) (suc j) n) (empty (starts_of v j) (partners_are v j ∙ e))
    ∙ none_from v K (suc j) n e

pub skipped : (v : Start) (K n : ℕ) (h : Bool) (q : ℕ) (s : State) → partners_of v ≡ 0
    → Checked (partners_from K (starts_of v) 1 n) h q s s h q
skipped v K n h q s e = subst (λ ds. Checked ds h q s s h q) (sym (none_from v K 1 n e)) (checked_none h q s)
