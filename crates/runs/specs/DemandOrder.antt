-- The demand order, one clause after the other, as a program lists it.
use Rattle.std.specs.Prelude.{◌≡◌, refl, false, List, [], ◌∷◌, ◌++◌, map, ℕ, zero, suc, ◌+◌, ◌<◌, length}
use mathlib.Core.List.Memᴰ
use Rattle.std.proofs.Common.{arith}
use Rattle.table.specs.Step.{Step, end_of, FairGuard, Fairs}
use Rattle.table.specs.declared.Guard.{Guard}
use Rattle.runs.specs.Run.{zeroed}
use Rattle.runs.specs.Demand.{plus, demands_at, guards_demands, steps_demands}
use Rattle.runs.specs.Demand.{Starts, moved, start_demands, demands}
use Rattle.runs.specs.Readings.{zeroed_cases}
use Rattle.runs.specs.Steps.{fairs_head, fairs_tail}
use Rattle.runs.specs.Tools.{Every}

-- those of the steps, then those of the starts
pub demands_is : (n : ℕ) (σ : List Step) (D : Starts)
    → demands n σ D ≡ steps_demands σ 0 (λ j. length σ + j) ++ start_demands (length σ) D 1 n
unfolding demands
demands_is n σ D = refl

-- ---- the steps: one step, then the rest
pub steps_demands_nil : (i : ℕ) (z : ℕ → ℕ) → steps_demands [] i z ≡ []
unfolding steps_demands
steps_demands_nil i z = refl

pub steps_demands_cons : (step : Step) (σ : List Step) (i : ℕ) (z : ℕ → ℕ)
    → steps_demands (step ∷ σ) i z
    ≡ (plus (suc i) i 0 false ∷ guards_demands step.guards (suc i) z)
    ++ steps_demands σ (suc i) (zeroed step (suc i) z)
unfolding steps_demands
steps_demands_cons step σ i z = refl

-- ---- the guards of a step: one guard, then the rest
pub guards_demands_nil : (i : ℕ) (z : ℕ → ℕ) → guards_demands [] i z ≡ []
unfolding guards_demands
guards_demands_nil i z = refl

pub guards_demands_cons : (g : Guard) (gs : List Guard) (i : ℕ) (z : ℕ → ℕ)
    → guards_demands (g ∷ gs) i z ≡ demands_at g i z ++ guards_demands gs i z
unfolding guards_demands
guards_demands_cons g gs i z = refl

-- ---- the starts: one clock, then the rest
pub start_demands_zero : (K : ℕ) (D : Starts) (j : ℕ) → start_demands K D j 0 ≡ []
unfolding start_demands
start_demands_zero K D j = refl

pub start_demands_suc : (K : ℕ) (D : Starts) (j n : ℕ)
    → start_demands K D j (suc n) ≡ (plus 0 (K + j) 0 false ∷ map (moved K) (D j)) ++ start_demands K D (suc j) n
unfolding start_demands
start_demands_suc K D j n = refl

-- ---- of the last resets only those of clocks 1 to 6 matter
abbrev pub SameResets : (ℕ → ℕ) → (ℕ → ℕ) → Type 0
SameResets y z = (j : ℕ) → 0 < j → j < 7 → y j ≡ z j

end_resets : (j i : ℕ) (y z : ℕ → ℕ) → j < 7 → SameResets y z → end_of j i y ≡ end_of j i z
unfolding end_of
end_resets zero i y z l h = refl
end_resets (suc j) i y z l h = h (suc j) (omega arith) l

pub guards_demands_same : (gs : List Guard) (i : ℕ) (y z : ℕ → ℕ) → Every FairGuard gs → SameResets y z
    → guards_demands gs i y ≡ guards_demands gs i z
unfolding guards_demands
guards_demands_same [] i y z f h = refl
guards_demands_same (g ∷ gs) i y z f h =
    let k : FairGuard g = f g (Memᴰ.head refl) in
    rw (h g.clock k.first k.last, end_resets g.second i y z k.second h, guards_demands_same gs i y z (λ q m. f q (Memᴰ.tail m)) h)

pub zeroed_same : (step : Step) (i : ℕ) (y z : ℕ → ℕ) → SameResets y z → SameResets (zeroed step i y) (zeroed step i z)
zeroed_same step i y z h j p l = zeroed_cases (λ a b. a ≡ b) step i y z j (λ e. refl) (λ e. h j p l)

-- equal last resets of clocks 1 to 6 give the same demands
pub steps_demands_same : (σ : List Step) (i : ℕ) (y z : ℕ → ℕ) → Fairs σ → SameResets y z
    → steps_demands σ i y ≡ steps_demands σ i z
unfolding steps_demands
steps_demands_same [] i y z f h = refl
steps_demands_same (step ∷ σ) i y z f h =
    let k = zeroed_same step (suc i) y z h in
    let rest = steps_demands_same σ (suc i) (zeroed step (suc i) y) (zeroed step (suc i) z) (fairs_tail f) k in
    rw (guards_demands_same step.guards (suc i) y z (fairs_head f).guards h, rest)
