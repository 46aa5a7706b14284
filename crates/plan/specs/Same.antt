-- A plan depends only on moments 0 to K and clocks 1 to n.
use Rattle.std.specs.Prelude.{◌≡◌, refl, List, ℕ, suc, ◌≤◌, ◌<◌, length}
use Rattle.std.proofs.Common.{sym, arith}
use Rattle.table.specs.Step.{Step}
use Rattle.runs.specs.Run.{Run}
use Rattle.runs.specs.Demand.{Starts, Allowed}
use Rattle.runs.specs.Rows.{Row, row_at, row_is, run_row, run_satisfies}
use Rattle.basics.specs.Numbers.{top, top_ge}
use Rattle.plan.specs.Planned.{Planned}
use Rattle.plan.specs.Asked.{Asked, asked_places}

module _ (P n : ℕ) (σ : List Step) (D : Starts) (a : Asked n σ D) where
  -- equal moments and starts are a run alike
  pub run_same : (t s u r : ℕ → ℕ) → ((i : ℕ) → i ≤ length σ → u i ≡ t i) → ((j : ℕ) → 0 < j → j ≤ n → r j ≡ s j)
      → Run P σ t s → Allowed P D n s → Run P σ u r × Allowed P D n r
  run_same t s u r e f w b =
      (run_satisfies P n σ D u r x a.clocks (asked_places n σ D a) row).1
      (run_row P S n σ D t s a.clocks (asked_places n σ D a) short w b)
    where
      S : ℕ
      S = top (suc n) s

      x : ℕ → ℕ
      x = row_at S (length σ) t s

      short : (j : ℕ) → 0 < j → j ≤ n → s j ≤ S
      short j p l = top_ge (suc n) s j (omega arith)

      old : Row (length σ) n t s x
      old = row_is S (length σ) n t s w.start short

      row : Row (length σ) n u r x
      row = record {
        now = λ i l. omega (arith, old.now i l, e i l);
        past = λ j p l. omega (arith, old.past j p l, f j p l);
      }

  pub planned_same : (t s u r : ℕ → ℕ) → ((i : ℕ) → i ≤ length σ → u i ≡ t i) → ((j : ℕ) → 0 < j → j ≤ n → r j ≡ s j)
      → Planned P n σ D t s → Planned P n σ D u r
  planned_same t s u r e f p =
      record {
        run = new.0;
        allowed = new.1;
        earliest = λ v q w b i l. omega (arith, e i l, p.earliest v q w b i l);
        smallest = λ q w b j g l. omega (arith, f j g l, smallest q w b j g l);
      }
    where
      new : Run P σ u r × Allowed P D n r
      new = run_same t s u r e f p.run p.allowed

      smallest : (q : ℕ → ℕ) → Run P σ u q → Allowed P D n q → (j : ℕ) → 0 < j → j ≤ n → s j ≤ q j
      smallest q w b =
          let old = run_same u q t q (λ i l. sym (e i l)) (λ j g l. refl) w b in p.smallest q old.0 old.1

  -- There is one plan only.
  pub planned_unique : (t s u r : ℕ → ℕ) → Planned P n σ D t s → Planned P n σ D u r
      → ((i : ℕ) → i ≤ length σ → t i ≡ u i) × ((j : ℕ) → 0 < j → j ≤ n → s j ≡ r j)
  planned_unique t s u r p q = (moments, λ j g l. omega (arith, first j g l, second j g l))
    where
      moments : (i : ℕ) → i ≤ length σ → t i ≡ u i
      moments i l =
          omega (arith, p.earliest u r q.run q.allowed i l, q.earliest t s p.run p.allowed i l)

      first : (j : ℕ) → 0 < j → j ≤ n → s j ≤ r j
      first = let w = run_same u r t r moments (λ j g l. refl) q.run q.allowed in p.smallest r w.0 w.1

      second : (j : ℕ) → 0 < j → j ≤ n → r j ≤ s j
      second =
          let w = run_same t s u s (λ i l. sym (moments i l)) (λ j g l. refl) p.run p.allowed in
          q.smallest s w.0 w.1
