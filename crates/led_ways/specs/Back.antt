-- The checks back with leads, from the last step to the first: the guards of each step from above, then those between two clocks.
use Rattle.std.specs.Prelude.{◌≡◌, refl, Bool, true, List, [], ◌++◌, ℕ, suc, ◌%◌}
use Rattle.std.proofs.Common.{subst, ◌∙◌, append_assoc}
use Rattle.table.specs.declared.Table.{Table}
use Rattle.runs.specs.declared.Demand.{Demand}
use Rattle.sweeps.specs.Order.{side_of, leads_at, back_of, back_none, back_more}
use Rattle.paths.specs.State.{State}
use Rattle.checks.specs.Checks.{Checkable, Checked}
use Rattle.checks.specs.Turns.{Turn, turn_able, turn_more, turn_last}

module _ (up : List ℕ) (T : Table) (far : List ℕ) (L n K : ℕ) (h₀ : Bool) (q₀ : ℕ) (s₀ : State) where
  abbrev all : List Demand
  all = back_of up T far L n K K

  -- the steps before i + 1 are left, and step i is step s of its round
  module _ (i m : ℕ) (g : m ≡ suc i) (h : Bool) (q : ℕ) (x : State) (u : Turn all h₀ q₀ s₀ (back_of up T far L n K m) h q x) (s : ℕ)
      (e : s ≡ i % L) where
    left : back_of up T far L n K m ≡ side_of true up far K s i 1 n ++ (leads_at T far K s i ++ back_of up T far L n K i)
    left = rw (e, g) (back_more up T far L n K i ∙ append_assoc (side_of true up far K (i % L) i 1 n) (leads_at T far K (i % L) i) _)

    pub upper_able : Checkable (side_of true up far K s i 1 n) x q
    upper_able = turn_able all h₀ q₀ s₀ _ (side_of true up far K s i 1 n) _ left h q x u

    module _ (x₁ : State) (h₁ : Bool) (q₁ : ℕ) (c : Checked (side_of true up far K s i 1 n) h q x x₁ h₁ q₁) where
      sided : Turn all h₀ q₀ s₀ (leads_at T far K s i ++ back_of up T far L n K i) h₁ q₁ x₁
      sided = turn_more all h₀ q₀ s₀ _ (side_of true up far K s i 1 n) _ left h q x u x₁ h₁ q₁ c

      pub leads_able : Checkable (leads_at T far K s i) x₁ q₁
      leads_able = turn_able all h₀ q₀ s₀ _ (leads_at T far K s i) _ refl h₁ q₁ x₁ sided

      pub back_next : (x₂ : State) (h₂ : Bool) (q₂ : ℕ) → Checked (leads_at T far K s i) h₁ q₁ x₁ x₂ h₂ q₂
          → Turn all h₀ q₀ s₀ (back_of up T far L n K i) h₂ q₂ x₂
      back_next x₂ h₂ q₂ k = turn_more all h₀ q₀ s₀ _ (leads_at T far K s i) _ refl h₁ q₁ x₁ sided x₂ h₂ q₂ k

  -- none is left
  pub back_last : (i : ℕ) (h : Bool) (q : ℕ) (x : State) → i ≡ 0 → Turn all h₀ q₀ s₀ (back_of up T far L n K i) h q x
      → Checked all h₀ q₀ s₀ x h q
  back_last i h q x e u =
      let none : back_of up T far L n K i ≡ [] = rw e (back_none up T far L n K) in
      turn_last all h₀ q₀ s₀ h q x (subst (λ ds. Turn all h₀ q₀ s₀ ds h q x) none u)
