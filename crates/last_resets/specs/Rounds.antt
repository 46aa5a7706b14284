-- The demands of the steps of k rounds, step by step.
use Rattle.std.specs.Prelude.{◌≡◌, refl, List, [], ◌∷◌, ◌++◌, drop}
use Rattle.std.proofs.Math.Path.{ap}
use Rattle.std.proofs.Common.{sym, ◌∙◌, arith, mod-lt, div-add-mod', drop_of_length-le}
use Rattle.std.proofs.Math.Bool.{false}
use Prim.Native.Nat.{ℕ, zero, suc, ◌+◌, ◌*◌, ◌/◌, ◌%◌, ◌≤◌, ◌<◌}
use Rattle.std.proofs.Math.ListN.{length}
use Rattle.table.specs.Step.{Good}
use Rattle.table.specs.declared.Table.{Table}
use Rattle.runs.specs.declared.Demand.{Demand}
use Rattle.runs.specs.Demand.{plus, guards_demands, steps_demands}
use Rattle.runs.specs.DemandOrder.{steps_demands_nil, steps_demands_cons}
use Rattle.constraints.specs.Rounds.{length_rounds, rounds_drop}
use Rattle.constraints.specs.Sized.{rounds_of, steps_part}
use Rattle.last_resets.specs.Since.{step_of, last_resets}

-- the demands of m of K steps from step i on
unfoldable pub demands_from : Table → ℕ → ℕ → ℕ → List Demand
demands_from t K i zero = []
demands_from t K i (suc m) =
    (plus (suc i) i 0 false ∷ guards_demands (step_of t i).guards (suc i) (last_resets t K i)) ++ demands_from t K (suc i) m

pub demands_from_zero : (t : Table) (K i : ℕ) → demands_from t K i 0 ≡ []
unfolding demands_from
demands_from_zero t K i = refl

pub demands_from_suc : (t : Table) (K i m : ℕ)
    → demands_from t K i (suc m)
    ≡ (plus (suc i) i 0 false ∷ guards_demands (step_of t i).guards (suc i) (last_resets t K i)) ++ demands_from t K (suc i) m
unfolding demands_from
demands_from_suc t K i m = refl

module _ (t : Table) (k : ℕ) (p : 0 < t.steps) where
  -- the demands when i steps are past and m are left
  steps_left : (i m : ℕ) → i + m ≡ k * t.steps
      → steps_demands (drop i (rounds_of t k)) i (last_resets t (k * t.steps) i) ≡ demands_from t (k * t.steps) i m
  unfolding demands_from last_resets
  steps_left i zero e =
      let o : length (rounds_of t k) ≤ i = omega (arith, length_rounds t k) in
      ap (λ σ. steps_demands σ i (last_resets t (k * t.steps) i))
      (drop_of_length-le (rounds_of t k) o)
      ∙ steps_demands_nil i (last_resets t (k * t.steps) i)
  steps_left i (suc m) e =
      let d =
      rounds_drop t k (i / t.steps) (i % t.steps) i (mod-lt i p) (sym (div-add-mod' i t.steps)) (omega arith) in
      ap (λ σ. steps_demands σ i (last_resets t (k * t.steps) i)) d
      ∙ steps_demands_cons (step_of t i) (drop (suc i) (rounds_of t k)) i (last_resets t (k * t.steps) i)
      ∙ ap
      (λ l. (plus (suc i) i 0 false ∷ guards_demands (step_of t i).guards (suc i) (last_resets t (k * t.steps) i)) ++ l)
      (steps_left (suc i) m (omega arith))

pub steps_are : (t : Table) (k : ℕ) → Good t → steps_part t k ≡ demands_from t (k * t.steps) 0 (k * t.steps)
unfolding last_resets
steps_are t k good =
    ap (λ n. steps_demands (rounds_of t k) 0 (λ j. n + j)) (length_rounds t k)
    ∙ steps_left t k good.steps_some 0 (k * t.steps) (omega arith)
