-- The moments of a run never decrease, and it depends on the starting readings of its clocks only.
use Rattle.std.specs.Prelude.{◌≡◌, refl, List, [], ◌∷◌, ℕ, zero, suc, ◌+◌, ◌≤◌, ◌<◌, length}
use Rattle.std.proofs.Common.{ap, arith}
use mathlib.Core.List.Memᴰ
use Rattle.table.specs.Step.{Step}
use Rattle.table.specs.declared.Guard.{Guard}
use Rattle.runs.specs.Run.{reading, second_reading, zeroed, Passes, Goes, done, next, Run}
use Rattle.runs.specs.Demand.{OnClocks, Clocks}

goes_later : (P : ℕ) (t s : ℕ → ℕ) {σ : List Step} {i : ℕ} {z : ℕ → ℕ} → Goes P t s σ i z
    → (m : ℕ) → m < length σ → t (i + m) ≤ t (suc (i + m))
goes_later P t s done m b = absurd (omega arith)
goes_later P t s (next {i = i} l g r) zero b = let e : i + 0 ≡ i = omega arith in rw e l
goes_later P t s (next {i = i} l g r) (suc m) b =
    let e : i + suc m ≡ suc i + m = omega arith in rw e (goes_later P t s r m (omega arith))

pub run_later : (P : ℕ) (σ : List Step) (t s : ℕ → ℕ) → Run P σ t s → (i : ℕ) → i < length σ → t i ≤ t (suc i)
run_later P σ t s r i l = let e : 0 + i ≡ i = omega arith in rw e at (goes_later P t s r.goes i l)

-- ---- the starting readings of clocks 1 to n are s as well as r
second_same : (t s r z : ℕ → ℕ) (i j : ℕ) → (0 < j → s j ≡ r j) → second_reading t s z i j ≡ second_reading t r z i j
unfolding second_reading
second_same t s r z i zero e = refl
second_same t s r z i (suc j) e = ap (λ x. reading t x (z (suc j)) i) (e (omega arith))

module _ (P n : ℕ) (t s r : ℕ → ℕ) (e : (j : ℕ) → 0 < j → j ≤ n → s j ≡ r j) where
  passes_readings : (z : ℕ → ℕ) (i : ℕ) (g : Guard) → OnClocks n g → Passes P t s z i g → Passes P t r z i g
  passes_readings z i g o h =
      rw (← e g.clock o.0 o.1, ← second_same t s r z i g.second (λ p. e g.second p o.2)) h

  goes_readings : (σ : List Step) (i : ℕ) (z : ℕ → ℕ) → Clocks n σ → Goes P t s σ i z → Goes P t r σ i z
  goes_readings [] i z f done = done
  goes_readings (c ∷ σ) i z f (next l g h) =
      next l (λ q m. passes_readings z (suc i) q (f c (Memᴰ.head refl) q m) (g q m))
      (goes_readings σ (suc i) (zeroed c (suc i) z) (λ d m. f d (Memᴰ.tail m)) h)

  pub run_readings : (σ : List Step) → Clocks n σ → Run P σ t s → Run P σ t r
  run_readings σ f h = record { start = h.start; goes = goes_readings σ 0 (λ j. 0) f h.goes }
