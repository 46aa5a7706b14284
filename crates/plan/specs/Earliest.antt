-- The least solution of the demands above the start values is the earliest run.
use Rattle.std.specs.Prelude.{◌≡◌, List, ℕ, ◌+◌, ◌*◌, ◌-◌, ◌≤◌, ◌<◌, length}
use Rattle.std.proofs.Common.{arith}
use Rattle.table.specs.Step.{Step}
use Rattle.runs.specs.Run.{Run}
use Rattle.runs.specs.Demand.{Holds, Starts, steps_demands, start_demands, demands, Allowed}
use Rattle.runs.specs.DemandOrder.{demands_is}
use Rattle.runs.specs.Tools.{every_append}
use Rattle.runs.specs.Satisfies.{Satisfies, start_satisfies}
use Rattle.runs.specs.RowSteps.{rising}
use Rattle.runs.specs.Rows.{row_at, row_now, run_row}
use Rattle.plan.specs.Asked.{Asked, asked_places}
use Rattle.runs.specs.Twin.{longest, Short, twin}

-- x is the least solution of the demands of σ that is not below the start values: B parts for moments 0 to K, and 0 for
-- the last resets before the start.
pub record Least (B P n : ℕ) (σ : List Step) (D : Starts) (x : ℕ → ℕ) : Type 0 where
  pub solution : Satisfies P x (demands n σ D)
  pub above : (i : ℕ) → i ≤ length σ → B ≤ x i
  pub least : (y : ℕ → ℕ) → Satisfies P y (demands n σ D) → ((i : ℕ) → i ≤ length σ → B ≤ y i)
      → (v : ℕ) → v < length σ + n + 1 → x v ≤ y v

module _ (P n : ℕ) (σ : List Step) (D : Starts) where
  abbrev K : ℕ
  K = length σ

  split : (x : ℕ → ℕ) → Satisfies P x (demands n σ D)
      → Satisfies P x (steps_demands σ 0 (λ j. K + j)) × Satisfies P x (start_demands K D 1 n)
  split x h =
      (every_append (Holds P x) (steps_demands σ 0 (λ j. K + j)) (start_demands K D 1 n)).0 (rw demands_is at h)

  pub solution_now : (x : ℕ → ℕ) → Satisfies P x (demands n σ D) → (i : ℕ) → i ≤ K → x 0 ≤ x i
  solution_now x h i l =
      let e : 0 + i ≡ i = omega arith in rw e at (rising P x σ 0 (λ j. K + j) (split x h).0 i l)

  pub solution_past : (x : ℕ → ℕ) → Satisfies P x (demands n σ D) → (j : ℕ) → 0 < j → j ≤ n → x (K + j) ≤ x 0
  solution_past x h j p l = ((start_satisfies P x K D 1 n).1 (split x h).1 j p (omega arith)).0

  -- No run from an allowed start has an earlier moment than the least solution, if B is at least `longest` ticks.
  pub least_earliest : (B : ℕ) (x : ℕ → ℕ) → Least B P n σ D x → 0 < P → longest * P ≤ B → Asked n σ D
      → (u r : ℕ → ℕ) → Run P σ u r → Allowed P D n r → (i : ℕ) → i ≤ K → x i - x 0 ≤ u i
  least_earliest B x h p big a u r w b i l =
      omega (arith, h.above 0 (omega arith), now i l, h.least y solved (λ m q. omega (arith, now m q)) i (omega arith))
    where
      short : Short P p σ D n u
      short = twin P p σ a.fair D n a.few a.proper u r w b

      y : ℕ → ℕ
      y = row_at B K u short.starts

      solved : Satisfies P y (demands n σ D)
      solved =
          run_row P B n σ D u short.starts a.clocks (asked_places n σ D a)
          (λ j q m. omega (arith, short.short j q (omega (arith, a.few)), big)) short.run short.allowed

      now : (m : ℕ) → m ≤ K → y m ≡ B + u m
      now m q = row_now B K u short.starts m q
