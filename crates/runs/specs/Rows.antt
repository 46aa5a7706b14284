-- A run from an allowed start is an assignment of times to the moments that satisfies all demands.
use Rattle.std.specs.Prelude.{◌≡◌, ◌↔◌, List, ◌++◌, ℕ, zero, suc, ◌+◌, ◌-◌, ◌≤◌, ◌<◌, length}
use Rattle.std.proofs.Common.{◌∙◌, arith}
use Rattle.std.proofs.Math.Decide.{dec_le}
use Rattle.table.specs.Step.{Step}
use Rattle.runs.specs.Run.{Run}
use Rattle.runs.specs.Demand.{Holds, steps_demands, Starts, moment, moved, start_demands, demands}
use Rattle.runs.specs.Demand.{Allowed, Clocks, Places}
use Rattle.basics.specs.Choice.{choose, choose_yes, choose_no}
use Rattle.runs.specs.Tools.{Every, every_append}
use Rattle.runs.specs.Satisfies.{Satisfies, StartHolds, start_satisfies}
use Rattle.runs.specs.Allowed.{Agrees, allowed_holds}
use Rattle.runs.specs.RowSteps.{Placed, goes_satisfies, satisfies_goes}

-- x is a row of times for K moments t after the start, and for the last resets before it of n clocks with readings s.
pub record Row (K n : ℕ) (t s x : ℕ → ℕ) : Type 0 where
  pub now : (i : ℕ) → i ≤ K → x i ≡ x 0 + t i
  pub past : (j : ℕ) → 0 < j → j ≤ n → x (K + j) + s j ≡ x 0

-- the times of the places
row_agrees : (K n : ℕ) (t s x : ℕ → ℕ) → Row K n t s x → Agrees n s (λ a. x (moment K a))
row_agrees K n t s x r zero l = omega arith
row_agrees K n t s x r (suc a) l = r.past (suc a) (omega arith) l

-- A row of times satisfies the demands if and only if it is that of a run from an allowed start, in any number of parts.
pub run_satisfies : (P n : ℕ) (σ : List Step) (D : Starts) (t s x : ℕ → ℕ) → Clocks n σ → Places n D
    → Row (length σ) n t s x
    → (Run P σ t s × Allowed P D n s) ↔ Satisfies P x (demands n σ D)
unfolding demands
run_satisfies P n σ D t s x f g r = (there, back_again)
  where
    K : ℕ
    K = length σ

    placed : Placed n t s x (λ j. 0) (λ j. K + j) 0
    placed = record { reset = r.past; old = λ j p l. omega (arith, r.past j p l) }

    parts : Satisfies P x (steps_demands σ 0 (λ j. K + j) ++ start_demands K D 1 n)
        ↔ (Satisfies P x (steps_demands σ 0 (λ j. K + j)) × Satisfies P x (start_demands K D 1 n))
    parts = every_append (Holds P x) (steps_demands σ 0 (λ j. K + j)) (start_demands K D 1 n)

    starts : ((a : ℕ) → 1 ≤ a → a < 1 + n → StartHolds P x K D a) ↔ Satisfies P x (start_demands K D 1 n)
    starts = start_satisfies P x K D 1 n

    same : Allowed P D n s ↔ ((j : ℕ) → 0 < j → j ≤ n → Every (Holds P (λ a. x (moment K a))) (D j))
    same = allowed_holds P n D s (λ a. x (moment K a)) g (row_agrees K n t s x r)

    there : Run P σ t s × Allowed P D n s → Satisfies P x (steps_demands σ 0 (λ j. K + j) ++ start_demands K D 1 n)
    there h =
        parts.1 (
          goes_satisfies P n t s x K r.now σ 0 (λ j. 0) (λ j. K + j) f (omega arith) placed h.0.goes,
          starts.0 (λ a l u. (omega (arith, r.past a l (omega arith)), holds a l (omega arith))),
        )
      where
        holds : (a : ℕ) → 0 < a → a ≤ n → Every (λ d. Holds P x (moved K d)) (D a)
        holds a p l d m = record { holds = (same.0 h.1 a p l d m).holds }

    back_again : Satisfies P x (steps_demands σ 0 (λ j. K + j) ++ start_demands K D 1 n) → Run P σ t s × Allowed P D n s
    back_again h = (
      record {
        start = omega (arith, r.now 0 (omega arith));
        goes = satisfies_goes P n t s x K r.now σ 0 (λ j. 0) (λ j. K + j) f (omega arith) placed (parts.0 h).0;
      },
      same.1 (λ j p l d m. record { holds = ((starts.1 (parts.0 h).1 j p (omega arith)).1 d m).holds }),
    )

-- ---- from a run to a row
-- the row with the start at time S
pub row_at : ℕ → ℕ → (ℕ → ℕ) → (ℕ → ℕ) → ℕ → ℕ
row_at S K t s i = choose (dec_le i K) (S + t i) (S - s (i - K))

pub row_now : (S K : ℕ) (t s : ℕ → ℕ) (i : ℕ) → i ≤ K → row_at S K t s i ≡ S + t i
unfolding row_at
row_now S K t s i l = choose_yes (dec_le i K) (S + t i) (S - s (i - K)) l

pub row_past : (S K : ℕ) (t s : ℕ → ℕ) (j : ℕ) → 0 < j → row_at S K t s (K + j) ≡ S - s j
unfolding row_at
row_past S K t s j p =
    let e : K + j - K ≡ j = omega arith in
    choose_no (dec_le (K + j) K) (S + t (K + j)) (S - s (K + j - K)) (omega arith) ∙ rw e

-- it is a row of the run if the start is late enough
pub row_is : (S K n : ℕ) (t s : ℕ → ℕ) → t 0 ≡ 0 → ((j : ℕ) → 0 < j → j ≤ n → s j ≤ S) → Row K n t s (row_at S K t s)
row_is S K n t s e h =
    record {
      now = λ i l. omega (arith, row_now S K t s i l, row_now S K t s 0 (omega arith));
      past = λ j p l. omega (arith, row_past S K t s j p, row_now S K t s 0 (omega arith), h j p l);
    }

-- The row of a run from an allowed start satisfies the demands.
pub run_row : (P S n : ℕ) (σ : List Step) (D : Starts) (t s : ℕ → ℕ) → Clocks n σ → Places n D
    → ((j : ℕ) → 0 < j → j ≤ n → s j ≤ S)
    → Run P σ t s → Allowed P D n s → Satisfies P (row_at S (length σ) t s) (demands n σ D)
run_row P S n σ D t s f g b r a =
    (run_satisfies P n σ D t s (row_at S (length σ) t s) f g (row_is S (length σ) n t s r.start b)).0 (r, a)
