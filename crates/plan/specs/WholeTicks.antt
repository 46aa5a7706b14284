-- Where no demand is strict, a plan in P parts to a tick is the plan in whole ticks, every moment and start times P.
use Rattle.std.specs.Prelude.{◌≡◌, refl, List, ℕ, suc, ◌+◌, ◌*◌, ◌-◌, ◌≤◌, ◌<◌, length}
use Rattle.std.proofs.Common.{sym, ap, ◌∙◌, arith, le-div_iff_mul-le, mul-le-mul_right}
use Rattle.table.specs.Step.{Step}
use Rattle.basics.specs.Numbers.{top, top_ge}
use Rattle.runs.specs.Run.{Run}
use Rattle.runs.specs.Demand.{Starts, demands, Allowed}
use Rattle.runs.specs.Rows.{Row, row_at, row_is, run_row, run_satisfies}
use Rattle.runs.specs.Whole.{Weak, rounded, round_ticks, round_zero, scale_satisfies, whole_moments, whole_starts, whole_run, moments_are, starts_shorter}
use Rattle.plan.specs.Planned.{Planned}
use Rattle.plan.specs.Asked.{Asked, asked_places}
use Rattle.plan.specs.Same.{run_same}

module _ (n : ℕ) (σ : List Step) (D : Starts) (a : Asked n σ D) (w : Weak (demands n σ D)) (P : ℕ) (p : 0 < P) where
  abbrev K : ℕ
  K = length σ

  -- a run in whole ticks is one in parts, every time times P
  scaled_run : (t s : ℕ → ℕ) → Run 1 σ t s → Allowed 1 D n s → Run P σ (λ i. t i * P) (λ j. s j * P) × Allowed P D n (λ j. s j * P)
  scaled_run t s r b =
      (run_satisfies P n σ D (λ i. t i * P) (λ j. s j * P) (λ v. x v * P) a.clocks (asked_places n σ D a)
      (record {
        now = λ i l. ap (λ m. m * P) (old.now i l) ∙ omega arith;
        past = λ j q l. omega arith ∙ ap (λ m. m * P) (old.past j q l);
      })
      ).1 (scale_satisfies P (demands n σ D) x p (run_row 1 S n σ D t s a.clocks (asked_places n σ D a) short r b))
    where
      S : ℕ
      S = top (suc n) s

      x : ℕ → ℕ
      x = row_at S K t s

      short : (j : ℕ) → 0 < j → j ≤ n → s j ≤ S
      short j q l = top_ge (suc n) s j (omega arith)

      old : Row K n t s x
      old = row_is S K n t s r.start short

  module _ (t s u r : ℕ → ℕ) (f : Planned 1 n σ D t s) (g : Planned P n σ D u r) where
    times : Run P σ (λ i. t i * P) (λ j. s j * P) × Allowed P D n (λ j. s j * P)
    times = scaled_run t s f.run f.allowed

    -- Each moment of a plan in parts is that of the plan in whole ticks times P,
    pub moments_times : (i : ℕ) → i ≤ K → u i ≡ t i * P
    moments_times i l = omega (arith, above, below)
      where
        above : u i ≤ t i * P
        above = g.earliest (λ i. t i * P) (λ j. s j * P) times.0 times.1 i l

        down : Run 1 σ (whole_moments n σ D a.clocks (asked_places n σ D a) w P p u r g.run g.allowed 0 p) (whole_starts n σ D a.clocks (asked_places n σ D a) w P p u r g.run g.allowed 0 p)
            × Allowed 1 D n (whole_starts n σ D a.clocks (asked_places n σ D a) w P p u r g.run g.allowed 0 p)
        down = whole_run n σ D a.clocks (asked_places n σ D a) w P p u r g.run g.allowed 0 p

        below : t i * P ≤ u i
        below =
            let e : t i ≤ rounded P 0 (u i) =
            omega (
              arith,
              f.earliest _ _ down.0 down.1 i l,
              moments_are n σ D a.clocks (asked_places n σ D a) w P p u r g.run g.allowed 0 p i,
            ) in
            omega (arith, (le-div_iff_mul-le p).0 e)

    -- and so is each start.
    pub starts_times : (j : ℕ) → 0 < j → j ≤ n → r j ≡ s j * P
    starts_times j q l = omega (arith, above, below)
      where
        above : r j ≤ s j * P
        above =
            let k = run_same P n σ D a (λ i. t i * P) (λ j. s j * P) u (λ j. s j * P) moments_times (λ j q l. refl) times.0 times.1 in
            g.smallest (λ j. s j * P) k.0 k.1 j q l

        last : P - 1 < P
        last = omega arith

        up : Run 1 σ (whole_moments n σ D a.clocks (asked_places n σ D a) w P p u r g.run g.allowed (P - 1) last) (whole_starts n σ D a.clocks (asked_places n σ D a) w P p u r g.run g.allowed (P - 1) last)
            × Allowed 1 D n (whole_starts n σ D a.clocks (asked_places n σ D a) w P p u r g.run g.allowed (P - 1) last)
        up = whole_run n σ D a.clocks (asked_places n σ D a) w P p u r g.run g.allowed (P - 1) last

        exact : (i : ℕ) → i ≤ K → t i ≡ whole_moments n σ D a.clocks (asked_places n σ D a) w P p u r g.run g.allowed (P - 1) last i
        exact i b =
            let e : u i ≡ 0 + t i * P = omega (arith, moments_times i b) in
            sym (moments_are n σ D a.clocks (asked_places n σ D a) w P p u r g.run g.allowed (P - 1) last i
            ∙ ap (rounded P (P - 1)) e
            ∙ round_ticks P (P - 1) 0 (t i) p
            ∙ omega (arith, round_zero P (P - 1) last))

        below : s j * P ≤ r j
        below =
            let k = run_same 1 n σ D a _ _ t (whole_starts n σ D a.clocks (asked_places n σ D a) w P p u r g.run g.allowed (P - 1) last) exact (λ j q l. refl) up.0 up.1 in
            omega (
              arith,
              mul-le-mul_right P (f.smallest _ k.0 k.1 j q l),
              starts_shorter n σ D a.clocks (asked_places n σ D a) w P p u r g.run g.allowed (P - 1) last (omega arith) j,
            )
