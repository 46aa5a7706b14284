-- The checks forth, from step to step: the order demand of a step, then its guards from below.
use Rattle.std.specs.Prelude.{◌≡◌, refl, Bool, false, List, [], ◌∷◌, ◌++◌, ℕ, suc, ◌+◌, ◌-◌, ◌%◌, ◌≤◌, ◌<◌, length}
use Rattle.std.proofs.Common.{sym, ap, subst, ◌∙◌, add-one, mod-lt, arith}
use Rattle.runs.specs.declared.Demand.{Demand}
use Rattle.runs.specs.Demand.{plus}
use Rattle.constraints.specs.Pieces.{following_of}
use Rattle.last_resets.specs.Walking.{following_mod}
use Rattle.sweeps.specs.Order.{side_of, forth_of, forth_none, forth_more}
use Rattle.paths.specs.State.{State}
use Rattle.checks.specs.Checks.{Checkable, Checked}
use Rattle.checks.specs.Turns.{Turn, turn_first, turn_able, turn_more, turn_last}
use Rattle.checks.specs.SideChecks.{Placed}

-- What is asked of two rows for going over all steps.
pub record Going (keys far : List ℕ) (L n K : ℕ) : Type 0 where
  pub keyed : length keys ≡ 112
  pub reached : length far ≡ 112
  pub some : 0 < L
  pub steps : L ≤ 16
  pub clocks : n ≤ 6
  pub few : K ≤ 1024

-- a step of the rounds can be gone over
pub going_placed : (keys far : List ℕ) (L n K s i : ℕ) → Going keys far L n K → s ≡ i % L → i < K → Placed keys far n K s i
going_placed keys far L n K s i g e l =
    record {
      keyed = g.keyed;
      reached = g.reached;
      clocks = g.clocks;
      few = g.few;
      step = omega (arith, e, mod-lt i g.some, g.steps);
      past = omega (arith, g.few);
    }

-- one step forth is the step after in the round
pub step_forth : (i s r L : ℕ) → 0 < L → s ≡ i % L → r ≡ following_of s L → r ≡ (i + 1) % L
step_forth i s r L p e f =
    f ∙ ap (λ n. following_of n L) e ∙ following_mod i L p ∙ ap (λ n. n % L) (sym (add-one i))

-- from step i on
abbrev pub forth_from : List ℕ → List ℕ → ℕ → ℕ → ℕ → ℕ → List Demand
forth_from low far L n K i = forth_of low far L n K i (K - i)

module _ (low far : List ℕ) (L n K : ℕ) (h₀ : Bool) (q₀ : ℕ) (s₀ : State) where
  abbrev all : List Demand
  all = forth_of low far L n K 0 K

  pub forth_first : Checkable all s₀ q₀ → Turn all h₀ q₀ s₀ (forth_from low far L n K 0) h₀ q₀ s₀
  forth_first a =
      let e : K ≡ K - 0 = omega arith in
      subst (λ m. Turn all h₀ q₀ s₀ (forth_of low far L n K 0 m) h₀ q₀ s₀) e (turn_first all h₀ q₀ s₀ a)

  module _ (i : ℕ) (h : Bool) (q : ℕ) (x : State) (u : Turn all h₀ q₀ s₀ (forth_from low far L n K i) h q x) where
    -- step i, which is step s of its round, and d its order demand
    module _ (l : i < K) (s : ℕ) (e : s ≡ i % L) (d : Demand) (f : d ≡ plus (i + 1) i 0 false) where
      later : List Demand
      later = side_of false low far K s i 1 n ++ forth_from low far L n K (i + 1)

      left : forth_from low far L n K i ≡ (d ∷ []) ++ (side_of false low far K s i 1 n ++ forth_from low far L n K (i + 1))
      left =
          let g : K - i ≡ suc (K - (i + 1)) = omega arith in
          rw (e, f, g, add-one i) (forth_more low far L n K i (K - suc i))

      pub order_able : Checkable (d ∷ []) x q
      order_able = turn_able all h₀ q₀ s₀ _ (d ∷ []) _ left h q x u

      module _ (x₁ : State) (h₁ : Bool) (q₁ : ℕ) (c : Checked (d ∷ []) h q x x₁ h₁ q₁) where
        ordered : Turn all h₀ q₀ s₀ (side_of false low far K s i 1 n ++ forth_from low far L n K (i + 1)) h₁ q₁ x₁
        ordered = turn_more all h₀ q₀ s₀ _ (d ∷ []) _ left h q x u x₁ h₁ q₁ c

        pub lower_able : Checkable (side_of false low far K s i 1 n) x₁ q₁
        lower_able = turn_able all h₀ q₀ s₀ _ (side_of false low far K s i 1 n) _ refl h₁ q₁ x₁ ordered

        pub forth_next : (x₂ : State) (h₂ : Bool) (q₂ : ℕ) → Checked (side_of false low far K s i 1 n) h₁ q₁ x₁ x₂ h₂ q₂
            → Turn all h₀ q₀ s₀ (forth_from low far L n K (i + 1)) h₂ q₂ x₂
        forth_next x₂ h₂ q₂ k = turn_more all h₀ q₀ s₀ _ (side_of false low far K s i 1 n) _ refl h₁ q₁ x₁ ordered x₂ h₂ q₂ k

    -- all steps are past
    pub forth_last : K ≤ i → Checked all h₀ q₀ s₀ x h q
    forth_last l =
        let e : K - i ≡ 0 = omega arith in
        let none : forth_from low far L n K i ≡ [] = rw e (forth_none low far L n K i) in
        turn_last all h₀ q₀ s₀ h q x (subst (λ ds. Turn all h₀ q₀ s₀ ds h q x) none u)
