-- Solutions of the demands that a pass checks, from log-in, are runs; and a run is such a solution, with the start at 0.
use Rattle.std.specs.Prelude.{◌≡◌, ℕ, ◌+◌, ◌*◌, ◌-◌, ◌≤◌, ◌<◌, length}
use Rattle.std.proofs.Common.{sym, arith}
use Rattle.std.proofs.Math.Path.{subst}
use mathlib.Core.List.Memᴰ
use mathlib.Core.List.{List, Memᴰ}
use Rattle.table.specs.Step.{Step}
use Rattle.table.specs.declared.Table.{Table}
use Rattle.runs.specs.Run.{Run}
use Rattle.runs.specs.declared.Demand.{Demand}
use Rattle.runs.specs.declared.Start.TheVariants.{LogIn}
use Rattle.runs.specs.Demand.{Starts, starts_of, demands, Allowed}
use Rattle.runs.specs.Satisfies.{Satisfies}
use Rattle.runs.specs.Rows.{Row, row_at, row_now, row_past, run_row, run_satisfies}
use Rattle.runs.specs.Start.{log_in_zero}
use Rattle.constraints.specs.Rounds.{length_rounds}
use Rattle.constraints.specs.Sized.{Sized, moments_of, rounds_of}
use Rattle.sides.specs.Covers.{covers_satisfies}
use Rattle.paths.specs.Constraint.{Constraint, All, Fits}
use Rattle.checks.specs.InParts.{edge, satisfies_parts}
use Rattle.checks.specs.Checks.{slight_fits, slight_gains}
use Rattle.relaxing.specs.Rows.{Rows, sweep, constraints_of}
use Rattle.plan.specs.Asked.{Asked, sized_asked, asked_places}
use Rattle.plan.specs.Earliest.{solution_now, solution_past}
use Rattle.plan.specs.Rows.{rows_of, tightest, Parts, rows_same, rows_cover, rows_sound}
use Rattle.lowering.specs.Bounded.{unit}
use Rattle.lowering.specs.Gap.{Weights}
use Rattle.spans.specs.Span.{With}

module _ (P : ℕ) (t : Table) (k : ℕ) (z : Sized t k) (enough : Parts P t LogIn k) where
  abbrev K : ℕ
  K = k * t.steps

  abbrev n : ℕ
  n = t.clocks

  abbrev σ : List Step
  σ = rounds_of t k

  abbrev D : Starts
  D = starts_of LogIn

  abbrev N : ℕ
  N = moments_of t k

  abbrev R : Rows
  R = rows_of P t LogIn k

  abbrev cs : List Constraint
  cs = constraints_of R

  asked : Asked n σ D
  asked = sized_asked t LogIn k z

  -- ---- the constraints
  pub all_fit : Fits N cs
  unfolding constraints_of
  all_fit = slight_fits N (sweep R) (rows_sound P t LogIn k z enough).slight

  pub all_weights : Weights unit cs
  unfolding constraints_of
  all_weights =
      record {
        gain = λ c m. omega (arith, slight_gains N (sweep R) (rows_sound P t LogIn k z enough).slight c m);
        loss = λ c m. loss c (Memᴰ.of_map edge (sweep R) m);
      }
    where
      loss : (c : Constraint) → (d : Demand) × Memᴰ d (sweep R) × (edge d ≡ c) → c.loss ≤ unit
      loss c d = rw (← d.2) (omega (arith, ((rows_sound P t LogIn k z enough).slight d.0 d.1).loss))

  -- ---- solutions
  unfoldable satisfied : (y : ℕ → ℕ) → All cs y → Satisfies P y (demands n σ D)
  satisfied y h =
      (covers_satisfies (rows_cover P t LogIn k z enough) P y enough.enough.0).0
      ((satisfies_parts P y (tightest t LogIn k)).1 (subst (λ l. All l y) (rows_same P t LogIn k z enough) h))

  solved : (y : ℕ → ℕ) → Satisfies P y (demands n σ D) → All cs y
  solved y h =
      subst (λ l. All l y) (sym (rows_same P t LogIn k z enough))
      ((satisfies_parts P y (tightest t LogIn k)).0 ((covers_satisfies (rows_cover P t LogIn k z enough) P y enough.enough.0).1 h))

  -- no step is before the start, and the last resets before the start are not after it
  pub all_now : (y : ℕ → ℕ) → All cs y → (i : ℕ) → i ≤ K → y 0 ≤ y i
  all_now y h i l = solution_now P n σ D y (satisfied y h) i (omega (arith, length_rounds t k))

  pub all_past : (y : ℕ → ℕ) → All cs y → (j : ℕ) → 0 < j → j ≤ n → y (K + j) ≤ y 0
  all_past y h j p l =
      let e = solution_past P n σ D y (satisfied y h) j p l in
      subst (λ q. y (q + j) ≤ y 0) (length_rounds t k) e

  -- A solution is a run, with the moments since the start.
  pub run_of : (Q : (ℕ → ℕ) → Type 0) (y : ℕ → ℕ) → All cs y → Q (λ i. y i - y 0) → With P n σ D Q
  run_of Q y h q =
      record { moments = λ i. y i - y 0; starts = λ j. y 0 - y (length σ + j); run = r.0; allowed = r.1; fact = q }
    where
      row : Row (length σ) n (λ i. y i - y 0) (λ j. y 0 - y (length σ + j)) y
      row =
          record {
            now = λ i l. omega (arith, solution_now P n σ D y (satisfied y h) i l);
            past = λ j p l. omega (arith, solution_past P n σ D y (satisfied y h) j p l);
          }

      r : Run P σ (λ i. y i - y 0) (λ j. y 0 - y (length σ + j)) × Allowed P D n (λ j. y 0 - y (length σ + j))
      r = (run_satisfies P n σ D (λ i. y i - y 0) (λ j. y 0 - y (length σ + j)) y asked.clocks (asked_places n σ D asked) row).1 (satisfied y h)

  -- ---- a run, with the start at time 0
  module _ (u s : ℕ → ℕ) (r : Run P σ u s) (a : Allowed P D n s) where
    pub times_of : ℕ → ℕ
    times_of = row_at 0 (length σ) u s

    pub times_solve : All cs times_of
    unfolding times_of
    times_solve =
        solved (row_at 0 (length σ) u s)
        (run_row P 0 n σ D u s asked.clocks (asked_places n σ D asked) (λ j p l. omega (arith, log_in_zero P n s a j p l)) r a)

    pub times_now : (i : ℕ) → i ≤ K → times_of i ≡ u i
    unfolding times_of
    times_now i l = omega (arith, row_now 0 (length σ) u s i (omega (arith, length_rounds t k)))

    pub times_start : times_of 0 ≡ 0
    times_start = omega (arith, times_now 0 (omega arith), r.start)

    pub times_past : (j : ℕ) → 0 < j → times_of (K + j) ≡ 0
    unfolding times_of
    times_past j p = subst (λ q. row_at 0 (length σ) u s (q + j) ≡ 0) (length_rounds t k) (omega (arith, row_past 0 (length σ) u s j p))
