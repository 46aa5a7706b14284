-- The check of a key's demand, if it has one.
use Rattle.std.specs.Prelude.{◌≡◌, Bool, List, [], ◌∷◌, ℕ, ◌≤◌, ◌<◌}
use Rattle.std.proofs.Common.{sym, ap, subst, ◌∙◌}
use Rattle.runs.specs.declared.Demand.{Demand}
use Rattle.sides.specs.Sides.{none}
use Rattle.sides.specs.Tight.{key_demand, key_demands, key_demands_some, key_demands_none}
use Rattle.lowering.specs.Lowered.{Bounds, lowers_none}
use Rattle.bounding.specs.Turns.{after_of, Able}

module _ (b : Bool) (key z i : ℕ) where
  pub none_after : none ≤ key → (s : Bounds) → s ≡ after_of (key_demands b key z i) s
  none_after l s = sym (lowers_none s) ∙ ap (λ ds. after_of ds s) (sym (key_demands_none b key z i l))

  -- d is its demand, when y is computed for z
  module _ (l : key < none) (d : Demand) (y : ℕ) (f : y ≡ z) (e : d ≡ key_demand b key y i) where
    same : key_demands b key z i ≡ d ∷ []
    same = key_demands_some b key z i l ∙ ap (λ x. x ∷ []) (sym (e ∙ ap (λ w. key_demand b key w i) f))

    pub some_able : (l : List ℕ) → Able (key_demands b key z i) l → Able (d ∷ []) l
    some_able l = subst (λ ds. Able ds l) same

    pub some_after : (s s' : Bounds) → s' ≡ after_of (d ∷ []) s → s' ≡ after_of (key_demands b key z i) s
    some_after s s' h = h ∙ ap (λ ds. after_of ds s) (sym same)
