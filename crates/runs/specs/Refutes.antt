-- A loop refutes every run.
use Rattle.std.specs.Prelude.{List, ℕ, suc, ◌+◌, ◌≤◌, ◌<◌, length, get_or}
use Rattle.std.proofs.Common.{arith}
use Rattle.table.specs.Step.{Step}
use Rattle.runs.specs.declared.Demand.{Demand}
use Rattle.runs.specs.Demand.{Starts, demands, Exists, Clocks, Places}
use Rattle.runs.specs.Loop.{Link, Tightest, Along, last, then, total, Loop}
use Rattle.basics.specs.Numbers.{top, top_ge}
use Rattle.runs.specs.Satisfies.{Satisfies}
use Rattle.runs.specs.Rows.{row_at, run_row}
use Rattle.runs.specs.Parts.{gain, loss, holds_parts, negative_parts}

-- ---- times that satisfy the demands ds
module _ (P : ℕ) (x : ℕ → ℕ) (ds : List Demand) (h : Satisfies P x ds) where
  edge : (a b : ℕ) (e : Demand) → Link ds a b e → x b + gain P e ≤ x a + loss P e
  edge a b e l = rw (← l.from, ← l.to) ((holds_parts P x e).0 (h e l.among))

  -- the inequalities along a row of moments add up
  along_sum : {ms : List ℕ} {z : ℕ} {es : List Demand} → Along (Tightest ds) ms z es
      → x z + total (gain P) es ≤ x (get_or ms 0 0) + total (loss P) es
  along_sum (last {a = a} {z = z} {e = e} t) = omega (arith, edge a z e t.link)
  along_sum (then {a = a} {b = b} {e = e} t r) = omega (arith, edge a b e t.link, along_sum r)

  -- There is no loop.
  pub loop_unsatisfied : (ms : List ℕ) → 0 < P → Loop ds ms → ⊥
  loop_unsatisfied ms p l = omega (arith, along_sum l.around, negative_parts P l.used p l.negative)

-- A run that exists gives times that satisfy all demands.
pub exists_satisfies : (n : ℕ) (σ : List Step) (D : Starts) → Clocks n σ → Places n D → (r : Exists n D σ)
    → (x : ℕ → ℕ) × Satisfies r.parts x (demands n σ D)
exists_satisfies n σ D f g r = (
  row_at S (length σ) r.moments r.starts,
  run_row r.parts S n σ D r.moments r.starts f g small r.run r.allowed,
)
  where
    S : ℕ
    S = top (suc n) r.starts

    small : (j : ℕ) → 0 < j → j ≤ n → r.starts j ≤ S
    small j p l = top_ge (suc n) r.starts j (omega arith)

-- A loop refutes every run: none exists from an allowed start, in any number of parts.
pub loop_refutes : (n : ℕ) (σ : List Step) (D : Starts) (ms : List ℕ) → Clocks n σ → Places n D
    → Loop (demands n σ D) ms → Exists n D σ → ⊥
loop_refutes n σ D ms f g l r =
    let x = exists_satisfies n σ D f g r in
    loop_unsatisfied r.parts x.0 (demands n σ D) x.1 ms r.positive l
