-- The checks of one side of a step, clock by clock.
use Rattle.std.specs.Prelude.{◌≡◌, Bool, List, [], ◌++◌, length, get_or}
use Rattle.std.proofs.Common.{subst}
use Prim.Native.Nat.{ℕ, suc, ◌+◌, ◌-◌, ◌≤◌, ◌<◌}
use Rattle.std.proofs.Math.Numerals.{add-one}
use native.Mathlib.Omega.{arith}
use Rattle.runs.specs.declared.Demand.{Demand}
use Rattle.sides.specs.Sides.{Side}
use Rattle.sides.specs.Tight.{key_demands}
use Rattle.last_resets.specs.Distance.{last_of}
use Rattle.sweeps.specs.Order.{cell, side_of, side_none, side_more}
use Rattle.paths.specs.State.{State}
use Rattle.checks.specs.Checks.{Checkable, Checked}
use Rattle.checks.specs.Turns.{Turn, turn_first, turn_able, turn_more, turn_last}

-- What is asked of the rows and of the step.
pub record Placed (keys : List ℕ) (far : List ℕ) (n K s i : ℕ) : Type 0 where
  pub keyed : length keys ≡ 112
  pub reached : length far ≡ 112
  pub clocks : n ≤ 6
  pub few : K ≤ 1024
  pub step : s < 16
  pub past : i ≤ 1024

-- from clock j on
abbrev pub side_from : Side → List ℕ → List ℕ → ℕ → ℕ → ℕ → ℕ → ℕ → List Demand
side_from b keys far K n s i j = side_of b keys far K s i j (n + 1 - j)

module _ (b : Side) (keys far : List ℕ) (K n s i : ℕ) (h₀ : Bool) (q₀ : ℕ) (s₀ : State) where
  abbrev all : List Demand
  all = side_of b keys far K s i 1 n

  pub side_first : Checkable all s₀ q₀ → Turn all h₀ q₀ s₀ (side_from b keys far K n s i 1) h₀ q₀ s₀
  side_first a =
      let e : n ≡ n + 1 - 1 = omega arith in
      subst (λ m. Turn all h₀ q₀ s₀ (side_of b keys far K s i 1 m) h₀ q₀ s₀) e (turn_first all h₀ q₀ s₀ a)

  module _ (j : ℕ) (h : Bool) (q : ℕ) (x : State) (u : Turn all h₀ q₀ s₀ (side_from b keys far K n s i j) h q x) where
    -- clock j
    module _ (l : j ≤ n) where
      here : List Demand
      here = key_demands b (get_or keys (cell s j) 0) (last_of (get_or far (cell s j) 0) K i j) (i + 1)

      left : side_from b keys far K n s i j ≡ here ++ side_from b keys far K n s i (j + 1)
      unfolding here
      left =
          let g : n + 1 - j ≡ suc (n + 1 - (j + 1)) = omega arith in
          rw (g, add-one j, add-one i) (side_more b keys far K s i j (n + 1 - suc j))

      pub side_able : Checkable (key_demands b (get_or keys (cell s j) 0) (last_of (get_or far (cell s j) 0) K i j) (i + 1)) x q
      unfolding here
      side_able = turn_able all h₀ q₀ s₀ _ here _ left h q x u

      pub side_next : (x' : State) (h' : Bool) (q' : ℕ)
          → Checked (key_demands b (get_or keys (cell s j) 0) (last_of (get_or far (cell s j) 0) K i j) (i + 1)) h q x x' h' q'
          → Turn all h₀ q₀ s₀ (side_from b keys far K n s i (j + 1)) h' q' x'
      unfolding here
      side_next x' h' q' c = turn_more all h₀ q₀ s₀ _ here _ left h q x u x' h' q' c

    -- past the last clock
    pub side_last : n < j → Checked all h₀ q₀ s₀ x h q
    side_last l =
        let e : n + 1 - j ≡ 0 = omega arith in
        let none : side_from b keys far K n s i j ≡ [] = rw e (side_none b keys far K s i j) in
        turn_last all h₀ q₀ s₀ h q x (subst (λ ds. Turn all h₀ q₀ s₀ ds h q x) none u)
