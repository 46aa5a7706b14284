-- The checks of the demands of a guard between two clocks, and of all such guards of one step.
use Rattle.std.specs.Prelude.{◌≡◌, refl, Bool, true, false, List, [], ◌∷◌, ◌++◌, ℕ, ◌+◌, ◌/◌, ◌%◌, ◌<◌, get_or}
use Rattle.std.proofs.Common.{sym, ap, subst, ◌∙◌, append-nil}
use Rattle.table.specs.Step.{up_of, down_of}
use Rattle.table.specs.declared.Guard.{Guard}
use Rattle.table.specs.declared.Relation.{Relation}
use Rattle.runs.specs.declared.Demand.{Demand}
use Rattle.runs.specs.Demand.{guard_demands}
use Rattle.constraints.specs.Pieces.{guard_demand, twice_of}
use Rattle.constraints.specs.Guards.{guard_once, guard_twice}
use Rattle.scaling.specs.Constants.{with_constant}
use Rattle.leads.specs.Codes.{guard_at}
use Rattle.leads.specs.Leads.{led_by}
use Rattle.sweeps.specs.Order.{leads_at}
use Rattle.checks.specs.Led.{lasts_at, lead_demands, lead_none, lead_some, Led, leads_from, leads_first, leads_more, leads_done}
use Rattle.lowering.specs.Lowered.{Bounds, lowers_none}
use Rattle.bounding.specs.Turns.{after_of, Able, Turn, turn_first, turn_able, turn_more, turn_last}

-- ---- a guard with demand a, and b where it has two
module _ (r : Relation) (u d z e : ℕ) (a : Demand) (f : a ≡ guard_demand r u d z e false) (s : Bounds) where
  abbrev all : List Demand
  all = guard_demands r u d z e

  module _ (o : twice_of r ≡ false) where
    one : all ≡ a ∷ []
    one = guard_once r u d z e o ∙ ap (λ x. x ∷ []) (sym f)

    pub once_after : (s' : Bounds) → s' ≡ after_of (a ∷ []) s → s' ≡ after_of all s
    once_after s' c = c ∙ ap (λ ds. after_of ds s) (sym one)

  module _ (o : twice_of r ≡ true) where
    two : all ≡ (a ∷ []) ++ (guard_demand r u d z e true ∷ [])
    two = guard_twice r u d z e o ∙ ap (λ x. x ∷ guard_demand r u d z e true ∷ []) (sym f)

    module _ (b : Demand) (g : b ≡ guard_demand r u d z e true) (s' : Bounds) (c : s' ≡ after_of (a ∷ []) s) (k : Able all s.late) where
      parts : all ≡ (a ∷ []) ++ (b ∷ [])
      parts = two ∙ ap (λ x. a ∷ x ∷ []) (sym g)

      then : Turn all s (b ∷ []) s'
      then = turn_more all s all (a ∷ []) (b ∷ []) parts s (turn_first all s k) s' c

      pub second_able : Able (b ∷ []) s'.late
      second_able = then.able

      pub twice_after : (s'' : Bounds) → s'' ≡ after_of (b ∷ []) s' → s'' ≡ after_of all s
      twice_after s'' h = turn_last all s s'' (turn_more all s (b ∷ []) (b ∷ []) [] (sym (append-nil (b ∷ []))) s' then s'' h)

  pub first_able : Able all s.late → Able (a ∷ []) s.late
  first_able k = go (twice_of r) refl
    where
      go : (t : Bool) → twice_of r ≡ t → Able (a ∷ []) s.late
      go false o = subst (λ ds. Able ds s.late) (one o) k
      go true o = turn_able all s all (a ∷ []) (guard_demand r u d z e true ∷ []) (two o) s (turn_first all s k)

-- ---- a guard of the row
module _ (c i : ℕ) (z : ℕ → ℕ) where
  pub lead_skipped : c / 7 % 7 ≡ 0 → (s : Bounds) → s ≡ after_of (lead_demands c i z) s
  lead_skipped e s = sym (lowers_none s) ∙ ap (λ ds. after_of ds s) (sym (lead_none c i z e))

  -- x and y are computed for the last resets of its clocks
  module _ (n : ¬ (c / 7 % 7 ≡ 0)) (g : Guard) (e : g ≡ with_constant 0 (guard_at c)) (x y : ℕ) (f : x ≡ z (c % 7)) (k : y ≡ z (c / 7 % 7)) where
    same : lead_demands c i z
        ≡ guard_demands g.relation (up_of (with_constant (c / 490) g)) (down_of (with_constant (c / 490) g)) x y
    same =
        lead_some c i z g e n
        ∙ ap (λ a. guard_demands g.relation (up_of (with_constant (c / 490) g)) (down_of (with_constant (c / 490) g)) a (z (c / 7 % 7))) (sym f)
        ∙ ap (λ b. guard_demands g.relation (up_of (with_constant (c / 490) g)) (down_of (with_constant (c / 490) g)) x b) (sym k)

    pub lead_able : (l : List ℕ) → Able (lead_demands c i z) l
        → Able (guard_demands g.relation (up_of (with_constant (c / 490) g)) (down_of (with_constant (c / 490) g)) x y) l
    lead_able l = subst (λ ds. Able ds l) same

    pub lead_after : (s s' : Bounds)
        → s' ≡ after_of (guard_demands g.relation (up_of (with_constant (c / 490) g)) (down_of (with_constant (c / 490) g)) x y) s
        → s' ≡ after_of (lead_demands c i z) s
    lead_after s s' h = h ∙ ap (λ ds. after_of ds s) (sym same)

-- ---- all of a step
module _ (row far : List ℕ) (K s i : ℕ) (s₀ : Bounds) where
  abbrev led : List Demand
  led = leads_at (led_by row) far K s i

  pub led_first : Able led s₀.late → Turn led s₀ (leads_from row far K s i (get_or row s 0)) s₀
  led_first a = subst (λ ds. Turn led s₀ ds s₀) (leads_first row far K s i) (turn_first led s₀ a)

  module _ (l : Led row far K s i) (k : ℕ) (x : Bounds) (u : Turn led s₀ (leads_from row far K s i k) x) where
    module _ (b : k < get_or row (s + 1) 0) where
      pub led_able : Able (lead_demands (get_or row (18 + k) 0) (i + 1) (lasts_at far K s i)) x.late
      led_able = turn_able led s₀ _ (lead_demands (get_or row (18 + k) 0) (i + 1) (lasts_at far K s i)) _ (leads_more row far K s i l k b) x u

      pub led_next : (x' : Bounds) → x' ≡ after_of (lead_demands (get_or row (18 + k) 0) (i + 1) (lasts_at far K s i)) x
          → Turn led s₀ (leads_from row far K s i (k + 1)) x'
      led_next x' c =
          turn_more led s₀ _ (lead_demands (get_or row (18 + k) 0) (i + 1) (lasts_at far K s i)) _ (leads_more row far K s i l k b) x u x' c

    pub led_last : k ≡ get_or row (s + 1) 0 → x ≡ after_of led s₀
    led_last e = turn_last led s₀ x (subst (λ ds. Turn led s₀ ds x) (leads_done row far K s i l k e) u)
