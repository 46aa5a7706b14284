-- The smallest starts for the moments of a solution: the greatest solution with these moments.
use Rattle.std.specs.Prelude.{◌≡◌, List, ℕ, suc, ◌+◌, ◌*◌, ◌-◌, ◌≤◌, ◌<◌, length}
use Rattle.std.proofs.Common.{arith}
use Rattle.table.specs.Step.{Step}
use Rattle.basics.specs.Numbers.{top, top_ge}
use Rattle.runs.specs.Run.{Run}
use Rattle.runs.specs.Demand.{Starts, demands, Allowed}
use Rattle.runs.specs.Satisfies.{Satisfies}
use Rattle.runs.specs.Rows.{Row, row_at, row_now, row_past, run_row, run_satisfies}
use Rattle.runs.specs.Twin.{longest}
use Rattle.plan.specs.Planned.{Planned}
use Rattle.plan.specs.Asked.{Asked, asked_places}
use Rattle.plan.specs.Earliest.{Least, solution_now, solution_past, least_earliest}

-- l is the greatest solution with the moments of x, and with the last resets before the start not after it: no other is later, when time
-- is counted from k. Checks that lower bounds from x and its start end in it (lowering, `Greatest`).
pub record Latest (P n : ℕ) (σ : List Step) (D : Starts) (x l : ℕ → ℕ) : Type 0 where
  pub solution : Satisfies P l (demands n σ D)
  pub now : (i : ℕ) → i ≤ length σ → l i ≡ x i
  pub greatest : (y : ℕ → ℕ) (k : ℕ) → Satisfies P y (demands n σ D) → ((i : ℕ) → i ≤ length σ → y i ≡ x i + k)
      → (v : ℕ) → v < length σ + n + 1 → y v ≤ l v + k

module _ (P n : ℕ) (σ : List Step) (D : Starts) (p : 0 < P) (a : Asked n σ D) (x l : ℕ → ℕ) (g : Latest P n σ D x l) where
  abbrev K : ℕ
  K = length σ

  abbrev t : ℕ → ℕ
  t i = x i - x 0

  abbrev s : ℕ → ℕ
  s j = l 0 - l (K + j)

  row : Row K n t s l
  row = record {
    now = λ i b. omega (arith, g.now i b, g.now 0 (omega arith), solution_now P n σ D l g.solution i b);
    past = λ j q b. omega (arith, solution_past P n σ D l g.solution j q b);
  }

  starts_run : Run P σ t s × Allowed P D n s
  starts_run = (run_satisfies P n σ D t s l a.clocks (asked_places n σ D a) row).1 g.solution

  -- No start of a run with the same moments is smaller.
  starts_least : (r : ℕ → ℕ) → Run P σ t r → Allowed P D n r → (j : ℕ) → 0 < j → j ≤ n → s j ≤ r j
  starts_least r w b j q m =
      omega (
        arith,
        g.greatest y S solved same (K + j) (omega arith),
        row_past (x 0 + S) K t r j q,
        g.now 0 (omega arith),
        top_ge (suc n) r j (omega arith),
      )
    where
      S : ℕ
      S = top (suc n) r

      y : ℕ → ℕ
      y = row_at (x 0 + S) K t r

      solved : Satisfies P y (demands n σ D)
      solved =
          run_row P (x 0 + S) n σ D t r a.clocks (asked_places n σ D a)
          (λ i c d. omega (arith, top_ge (suc n) r i (omega arith))) w b

      same : (i : ℕ) → i ≤ K → y i ≡ x i + S
      same i c =
          omega (
            arith,
            row_now (x 0 + S) K t r i c,
            g.now i c,
            g.now 0 (omega arith),
            solution_now P n σ D l g.solution i c,
          )

  -- The least solution above the start values, with the greatest starts' times for its moments, is a plan.
  pub least_planned : (B : ℕ) → longest * P ≤ B → Least B P n σ D x → Planned P n σ D t s
  least_planned B big h = record {
    run = starts_run.0;
    allowed = starts_run.1;
    earliest = least_earliest P n σ D B x h p big a;
    smallest = starts_least;
  }
