-- The checks of one side of a step, clock by clock.
use Rattle.std.specs.Prelude.{◌≡◌, List, [], ◌++◌, get_or}
use Rattle.std.proofs.Common.{subst}
use Prim.Native.Nat.{ℕ, suc, ◌+◌, ◌-◌, ◌≤◌, ◌<◌}
use Rattle.std.proofs.Math.Numerals.{add-one}
use native.Mathlib.Omega.{arith}
use Rattle.runs.specs.declared.Demand.{Demand}
use Rattle.sides.specs.Sides.{Side}
use Rattle.sides.specs.Tight.{key_demands}
use Rattle.last_resets.specs.Distance.{last_of}
use Rattle.sweeps.specs.Order.{cell, side_of, side_none, side_more}
use Rattle.checks.specs.SideChecks.{side_from}
use Rattle.lowering.specs.Lowered.{Bounds}
use Rattle.bounding.specs.Turns.{after_of, Able, Turn, turn_first, turn_able, turn_more, turn_last}

module _ (b : Side) (keys far : List ℕ) (K n s i : ℕ) (s₀ : Bounds) where
  abbrev all : List Demand
  all = side_of b keys far K s i 1 n

  pub side_first : Able all s₀.late → Turn all s₀ (side_from b keys far K n s i 1) s₀
  side_first a =
      let e : n ≡ n + 1 - 1 = omega arith in
      subst (λ m. Turn all s₀ (side_of b keys far K s i 1 m) s₀) e (turn_first all s₀ a)

  module _ (j : ℕ) (x : Bounds) (u : Turn all s₀ (side_from b keys far K n s i j) x) where
    -- clock j
    module _ (l : j ≤ n) where
      here : List Demand
      here = key_demands b (get_or keys (cell s j) 0) (last_of (get_or far (cell s j) 0) K i j) (i + 1)

      left : side_from b keys far K n s i j ≡ here ++ side_from b keys far K n s i (j + 1)
      unfolding here
      left =
          let g : n + 1 - j ≡ suc (n + 1 - (j + 1)) = omega arith in
          rw (g, add-one j, add-one i) (side_more b keys far K s i j (n + 1 - suc j))

      pub side_able : Able (key_demands b (get_or keys (cell s j) 0) (last_of (get_or far (cell s j) 0) K i j) (i + 1)) x.late
      unfolding here
      side_able = turn_able all s₀ _ here _ left x u

      pub side_next : (x' : Bounds)
          → x' ≡ after_of (key_demands b (get_or keys (cell s j) 0) (last_of (get_or far (cell s j) 0) K i j) (i + 1)) x
          → Turn all s₀ (side_from b keys far K n s i (j + 1)) x'
      unfolding here
      side_next x' c = turn_more all s₀ _ here _ left x u x' c

    -- past the last clock
    pub side_last : n < j → x ≡ after_of all s₀
    side_last l =
        let e : n + 1 - j ≡ 0 = omega arith in
        let none : side_from b keys far K n s i j ≡ [] = rw e (side_none b keys far K s i j) in
        turn_last all s₀ x (subst (λ ds. Turn all s₀ ds x) none u)
