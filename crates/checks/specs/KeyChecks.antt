-- The check of a key's demand, if it has one.
use Rattle.std.specs.Prelude.{◌≡◌, Bool, [], ◌∷◌, ℕ, ◌≤◌, ◌<◌}
use Rattle.std.proofs.Common.{sym, ap, subst, ◌∙◌}
use Rattle.runs.specs.declared.Demand.{Demand}
use Rattle.sides.specs.Sides.{none}
use Rattle.sides.specs.Tight.{key_demand, key_demands, key_demands_some, key_demands_none}
use Rattle.paths.specs.State.{State}
use Rattle.checks.specs.Checks.{Checkable, Checked, checked_none}

module _ (b : Bool) (key z i : ℕ) where
  pub none_checked : none ≤ key → (h : Bool) (q : ℕ) (s : State) → Checked (key_demands b key z i) h q s s h q
  none_checked l h q s = subst (λ ds. Checked ds h q s s h q) (sym (key_demands_none b key z i l)) (checked_none h q s)

  -- d is its demand, when y is computed for z
  module _ (l : key < none) (d : Demand) (y : ℕ) (f : y ≡ z) (e : d ≡ key_demand b key y i) where
    same : key_demands b key z i ≡ d ∷ []
    same = key_demands_some b key z i l ∙ ap (λ x. x ∷ []) (sym (e ∙ ap (λ w. key_demand b key w i) f))

    pub some_able : (s : State) (q : ℕ) → Checkable (key_demands b key z i) s q → Checkable (d ∷ []) s q
    some_able s q = subst (λ ds. Checkable ds s q) same

    pub some_checked : (h : Bool) (q : ℕ) (s s' : State) (h' : Bool) (q' : ℕ) → Checked (d ∷ []) h q s s' h' q'
        → Checked (key_demands b key z i) h q s s' h' q'
    some_checked h q s s' h' q' = subst (λ ds. Checked ds h q s s' h' q') (sym same)
