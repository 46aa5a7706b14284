-- The checks of demands that each of n clocks has, clock by clock.
use Rattle.std.specs.Prelude.{◌≡◌, Bool, List, [], ◌++◌, ℕ, suc, ◌+◌, ◌-◌, ◌≤◌, ◌<◌}
use Rattle.std.proofs.Common.{subst, add-one, arith}
use Rattle.runs.specs.declared.Demand.{Demand}
use Rattle.paths.specs.State.{State}
use Rattle.checks.specs.Checks.{Checkable, Checked}
use Rattle.checks.specs.Turns.{Turn, turn_first, turn_able, turn_more, turn_last}

-- `from j m` are the demands of m clocks from clock j on, of which clock j has `own j`.
pub record ByClock (from : ℕ → ℕ → List Demand) (own : ℕ → List Demand) : Type 0 where
  pub none : (j : ℕ) → from j 0 ≡ []
  pub more : (j m : ℕ) → from j (suc m) ≡ own j ++ from (suc j) m

module _ {from : ℕ → ℕ → List Demand} {own : ℕ → List Demand} (by : ByClock from own) (n : ℕ) (h₀ : Bool) (q₀ : ℕ) (s₀ : State) where
  abbrev all : List Demand
  all = from 1 n

  -- those from clock j on are left
  abbrev pub Left : ℕ → Bool → ℕ → State → Type 0
  Left j h q s = Turn all h₀ q₀ s₀ (from j (n + 1 - j)) h q s

  pub clocks_first : Checkable all s₀ q₀ → Left 1 h₀ q₀ s₀
  clocks_first a =
      let e : n ≡ n + 1 - 1 = omega arith in
      subst (λ m. Turn all h₀ q₀ s₀ (from 1 m) h₀ q₀ s₀) e (turn_first all h₀ q₀ s₀ a)

  module _ (j : ℕ) (h : Bool) (q : ℕ) (x : State) (u : Left j h q x) where
    -- clock j: its demands ds, then the others
    module _ (l : j ≤ n) (ds : List Demand) (e : ds ≡ own j) where
      next : from j (n + 1 - j) ≡ ds ++ from (j + 1) (n + 1 - (j + 1))
      next =
          let f : n + 1 - j ≡ suc (n + 1 - (j + 1)) = omega arith in
          rw (e, f, add-one j) (by.more j (n + 1 - suc j))

      pub clocks_able : Checkable ds x q
      clocks_able = turn_able all h₀ q₀ s₀ _ ds _ next h q x u

      pub clocks_next : (x' : State) (h' : Bool) (q' : ℕ) → Checked ds h q x x' h' q' → Left (j + 1) h' q' x'
      clocks_next x' h' q' c = turn_more all h₀ q₀ s₀ _ ds _ next h q x u x' h' q' c

    -- past the last clock
    pub clocks_last : n < j → Checked all h₀ q₀ s₀ x h q
    clocks_last l =
        let e : n + 1 - j ≡ 0 = omega arith in
        let done : from j (n + 1 - j) ≡ [] = rw e (by.none j) in
        turn_last all h₀ q₀ s₀ h q x (subst (λ ds. Turn all h₀ q₀ s₀ ds h q x) done u)
