-- A test of moments and starts that only the plan passes.
use Rattle.std.specs.Prelude.{◌≡◌, Bool, true, ◌&&◌, cond, List, ℕ, zero, suc, ◌+◌, ◌-◌, ◌≤◌, ◌<◌, eqb, ltb, leb, length}
use Rattle.std.proofs.Common.{arith}
use borrow.Author.Tests.{eqb-true, ltb-true, leb-true, le-leb, lt-leb}
use Rattle.table.specs.Step.{Step}
use Rattle.runs.specs.Run.{Run}
use Rattle.runs.specs.declared.Demand.{Demand}
use Rattle.runs.specs.Demand.{Starts, demands, Allowed, Clocks, Places}
use Rattle.runs.specs.Satisfies.{Satisfies}
use Rattle.runs.specs.Rows.{Row, run_satisfies, row_at, row_is, run_row}
use Rattle.basics.specs.Numbers.{top, top_ge}
use Rattle.plan.specs.Planned.{Planned}
use Rattle.samples.specs.Checks.{both, three, all, all_every, below, below_each}
use Rattle.samples.specs.Tight.{solves, solves_satisfies, held, held_first, pinned, pinned_last}

-- all guards are on clocks 1 to n
abbrev pub clocked : ℕ → List Step → Bool
clocked n σ = all (λ c. all (λ g. ltb 0 g.clock && leb g.clock n && leb g.second n) c.guards) σ

pub clocked_clocks : (n : ℕ) (σ : List Step) → clocked n σ ≡ true → Clocks n σ
clocked_clocks n σ e c m g i =
    let (low, high, second) = three (all_every _ c.guards (all_every _ σ e c m) g i) in
    (ltb-true 0 g.clock low, leb-true g.clock n high, leb-true g.second n second)

-- a row of times of the moments t and starts s, with moment 0 at S
abbrev pub times : ℕ → ℕ → (ℕ → ℕ) → (ℕ → ℕ) → ℕ → ℕ
times S K t s i = cond (leb i K) (S + t i) (S - s (i - K))

times_row : (S K n : ℕ) (t s : ℕ → ℕ) → t 0 ≡ 0 → ((j : ℕ) → 0 < j → j ≤ n → s j ≤ S) → Row K n t s (times S K t s)
times_row S K n t s e h =
    record {
      now = λ i l. omega (arith, now i l, now 0 (omega arith));
      past = λ j p l. omega (arith, past j p, now 0 (omega arith), h j p l);
    }
  where
    now : (i : ℕ) → i ≤ K → times S K t s i ≡ S + t i
    now i l = rw (le-leb i K l)

    past : (j : ℕ) → 0 < j → times S K t s (K + j) ≡ S - s j
    past j p = let q : K + j - K ≡ j = omega arith in rw (lt-leb (K + j) K (omega arith), q)

module _ (P n : ℕ) (σ : List Step) (D : Starts) (t s : ℕ → ℕ) where
  abbrev K : ℕ
  K = length σ

  abbrev ds : List Demand
  ds = demands n σ D

  -- moment 0 is at the largest start
  abbrev x : ℕ → ℕ
  x = times (top (suc n) s) K t s

  -- The demands hold; tight ones, at most one for each other moment, lead from each moment to moment 0; and tight ones, at most one for
  -- each clock, lead from a moment to the last reset of each clock before the start.
  unfoldable pub is_plan : Bool
  is_plan =
      eqb (t 0) 0
      && (clocked n σ
      && (solves P ds x
      && (below (suc K) (held P ds x (K + n))
      && below n (λ j. pinned P ds x K n (K + suc j)))))

  record Passed : Type 0 where
    start : t 0 ≡ 0
    clocks : Clocks n σ
    solution : Satisfies P x ds
    first : (i : ℕ) → i < suc K → held P ds x (K + n) i ≡ true
    last : (j : ℕ) → j < n → pinned P ds x K n (K + suc j) ≡ true

  passed : is_plan ≡ true → Passed
  unfolding is_plan
  passed e =
      let (start, e1) = both e in
      let (clocks, e2) = both e1 in
      let (solution, e3) = both e2 in
      let (first, last) = both e3 in
      record {
        start = eqb-true (t 0) 0 start;
        clocks = clocked_clocks n σ clocks;
        solution = solves_satisfies P ds x solution;
        first = below_each (suc K) _ first;
        last = below_each n _ last;
      }

  module _ (g : Places n D) (h : Passed) where
    row : Row K n t s x
    row = times_row (top (suc n) s) K n t s h.start (λ j p l. top_ge (suc n) s j (omega arith))

    -- the times of a run
    other : (ℕ → ℕ) → (ℕ → ℕ) → ℕ → ℕ
    other u r = row_at (top (suc n) r) K u r

    other_row : (u r : ℕ → ℕ) → Run P σ u r → Row K n u r (other u r)
    unfolding other
    other_row u r w = row_is (top (suc n) r) K n u r w.start (λ j p l. top_ge (suc n) r j (omega arith))

    other_solves : (u r : ℕ → ℕ) → Run P σ u r → Allowed P D n r → Satisfies P (other u r) ds
    unfolding other
    other_solves u r w a =
        run_row P (top (suc n) r) n σ D u r h.clocks g
        (λ j p l. top_ge (suc n) r j (omega arith)) w a

    planned : Planned P n σ D t s
    planned =
        record {
          run = is.0;
          allowed = is.1;
          earliest = λ u r w a i l.
              omega (
                arith,
                held_first P ds x (K + n) i (h.first i (omega arith)) (other u r) (other_solves u r w a),
                row.now i l,
                (other_row u r w).now i l,
              );
          smallest = smallest;
        }
      where
        is : Run P σ t s × Allowed P D n s
        is = (run_satisfies P n σ D t s x h.clocks g row).1 h.solution

        smallest : (r : ℕ → ℕ) → Run P σ t r → Allowed P D n r → (j : ℕ) → 0 < j → j ≤ n → s j ≤ r j
        smallest r w a zero p l = elim p [ ]
        smallest r w a (suc j) p l =
            omega (
              arith,
              pinned_last P ds x K (other t r) (other_solves t r w a) (λ a b. omega (arith, row.now a b, (other_row t r w).now a b))
                  n (K + suc j) (h.last j (omega arith)),
              row.past (suc j) p l,
              (other_row t r w).past (suc j) p l,
            )

  -- Moments and starts that pass are the plan.
  pub plan_sound : Places n D → is_plan ≡ true → Planned P n σ D t s
  plan_sound g e = planned g (passed e)
