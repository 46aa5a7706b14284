-- The checks of the guards between two clocks of one step, guard by guard.
use Rattle.std.specs.Prelude.{◌≡◌, Bool, List, ℕ, ◌+◌, ◌/◌, ◌%◌, ◌<◌, get_or}
use Rattle.std.proofs.Common.{sym, ap, subst, ◌∙◌}
use Rattle.table.specs.Step.{up_of, down_of}
use Rattle.table.specs.declared.Guard.{Guard}
use Rattle.runs.specs.declared.Demand.{Demand}
use Rattle.runs.specs.Demand.{guard_demands}
use Rattle.scaling.specs.Constants.{with_constant}
use Rattle.leads.specs.Codes.{guard_at}
use Rattle.leads.specs.Leads.{led_by}
use Rattle.sweeps.specs.Order.{leads_at}
use Rattle.paths.specs.State.{State}
use Rattle.checks.specs.Led.{lasts_at, lead_demands, lead_none, lead_some, Led, leads_from, leads_first, leads_more, leads_done}
use Rattle.checks.specs.Checks.{Checkable, Checked, checked_none}
use Rattle.checks.specs.Turns.{Turn, turn_first, turn_able, turn_more, turn_last}

-- ---- one guard
module _ (c i : ℕ) (z : ℕ → ℕ) where
  pub lead_skipped : c / 7 % 7 ≡ 0 → (h : Bool) (q : ℕ) (s : State) → Checked (lead_demands c i z) h q s s h q
  lead_skipped e h q s = subst (λ ds. Checked ds h q s s h q) (sym (lead_none c i z e)) (checked_none h q s)

  -- x and y are computed for the last resets of its clocks
  module _ (n : ¬ (c / 7 % 7 ≡ 0)) (g : Guard) (e : g ≡ with_constant 0 (guard_at c)) (x y : ℕ) (f : x ≡ z (c % 7)) (k : y ≡ z (c / 7 % 7)) where
    same : lead_demands c i z
        ≡ guard_demands g.relation (up_of (with_constant (c / 490) g)) (down_of (with_constant (c / 490) g)) x y
    same =
        lead_some c i z g e n
        ∙ ap (λ a. guard_demands g.relation (up_of (with_constant (c / 490) g)) (down_of (with_constant (c / 490) g)) a (z (c / 7 % 7))) (sym f)
        ∙ ap (λ b. guard_demands g.relation (up_of (with_constant (c / 490) g)) (down_of (with_constant (c / 490) g)) x b) (sym k)

    pub lead_able : (s : State) (q : ℕ) → Checkable (lead_demands c i z) s q
        → Checkable (guard_demands g.relation (up_of (with_constant (c / 490) g)) (down_of (with_constant (c / 490) g)) x y) s q
    lead_able s q = subst (λ ds. Checkable ds s q) same

    pub lead_checked : (h : Bool) (q : ℕ) (s s' : State) (h' : Bool) (q' : ℕ)
        → Checked (guard_demands g.relation (up_of (with_constant (c / 490) g)) (down_of (with_constant (c / 490) g)) x y) h q s s' h' q'
        → Checked (lead_demands c i z) h q s s' h' q'
    lead_checked h q s s' h' q' = subst (λ ds. Checked ds h q s s' h' q') (sym same)

-- ---- all of a step
module _ (row far : List ℕ) (K s i : ℕ) (h₀ : Bool) (q₀ : ℕ) (s₀ : State) where
  abbrev all : List Demand
  all = leads_at (led_by row) far K s i

  pub led_first : Checkable all s₀ q₀ → Turn all h₀ q₀ s₀ (leads_from row far K s i (get_or row s 0)) h₀ q₀ s₀
  led_first a = subst (λ ds. Turn all h₀ q₀ s₀ ds h₀ q₀ s₀) (leads_first row far K s i) (turn_first all h₀ q₀ s₀ a)

  module _ (l : Led row far K s i) (k : ℕ) (h : Bool) (q : ℕ) (x : State) (u : Turn all h₀ q₀ s₀ (leads_from row far K s i k) h q x) where
    module _ (b : k < get_or row (s + 1) 0) where
      pub led_able : Checkable (lead_demands (get_or row (18 + k) 0) (i + 1) (lasts_at far K s i)) x q
      led_able = turn_able all h₀ q₀ s₀ _ (lead_demands (get_or row (18 + k) 0) (i + 1) (lasts_at far K s i)) _ (leads_more row far K s i l k b) h q x u

      pub led_next : (x' : State) (h' : Bool) (q' : ℕ)
          → Checked (lead_demands (get_or row (18 + k) 0) (i + 1) (lasts_at far K s i)) h q x x' h' q'
          → Turn all h₀ q₀ s₀ (leads_from row far K s i (k + 1)) h' q' x'
      led_next x' h' q' c =
          turn_more all h₀ q₀ s₀ _ (lead_demands (get_or row (18 + k) 0) (i + 1) (lasts_at far K s i)) _ (leads_more row far K s i l k b) h q x u x' h' q' c

    pub led_last : k ≡ get_or row (s + 1) 0 → Checked all h₀ q₀ s₀ x h q
    led_last e = turn_last all h₀ q₀ s₀ h q x (subst (λ ds. Turn all h₀ q₀ s₀ ds h q x) (leads_done row far K s i l k e) u)
