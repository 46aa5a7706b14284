-- What log-in and every scan keep, for a table with the steps σ and n clocks.
use Rattle.std.specs.Prelude.{◌≡◌, ◌↔◌, true, length, get_or}
use Rattle.std.proofs.Math.Path.{refl}
use Rattle.std.proofs.Common.{ap, ap₂, subst₂, sym, ◌∙◌, arith, mod-lt, mod-eq_of_lt, length-append, eq-eqb, ne_eqb}
use Rattle.std.proofs.Math.Logic.Iff.{trans as iff_trans, symm as iff_symm}
use mathlib.Core.List.{List, [], ◌∷◌, ◌++◌, Memᴰ}
use Prim.Native.Nat.{ℕ, zero, suc, ◌+◌, ◌*◌, ◌-◌, ◌%◌, ◌≤◌, ◌<◌}
use Rattle.std.proofs.Math.Decide.{ℕ_discrete}
use Rattle.std.proofs.Math.Nat.{zero-mod, mod_self, suc-mod}
use Rattle.std.proofs.Math.ListN.{get_or-replicate}
use Rattle.table.specs.Step.{Step, Plain, Fairs}
use Rattle.table.specs.declared.Guard.{Guard}
use Rattle.table.specs.Steps.{member_at}
use Rattle.ticks.specs.Ticks.{elapsed_of, held, later_of, counter_at, elapsed_passed}
use Rattle.runs.specs.Run.{Compares, reading, zeroed, Run, done}
use Rattle.runs.specs.Demand.{OnClocks, Clocks}
use Rattle.runs.specs.Readings.{passes_plain, zeroed_cases}
use Rattle.runs.specs.Tools.{Every}
use Rattle.scans.specs.declared.Running.{Running}
use Rattle.scans.specs.declared.Scanned.{Scanned}
use Rattle.scans.specs.Scan.{log_in, aged, compares, first_failing, cleared, due, following, decided, scanned, fits}
use Rattle.scans.specs.Held.{aged_at, fits_true}
use Rattle.shifts.specs.Shift.{Shift, last_time, Near, times_with}
use Rattle.shifts.specs.Sound.{steps_to, moments_of, no_reading, zeroed_by, HoldsAt}
use Rattle.shifts.specs.Grown.{moments_before, moments_new, last_new, last_reset, reset_early, reset_new, run_new}
use Rattle.shifts.specs.Held.{compares_held, held_later, cleared_reset, cleared_kept}
use Rattle.shifts.specs.Held.{Tells, none_failing}

-- A table with the steps σ is within the limits, and each of its guards is on one of the clocks 1 to n.
pub record Limits (σ : List Step) (n : ℕ) : Type 0 where
  pub few : n ≤ 6
  pub some : 0 < length σ
  pub fair : Fairs σ
  pub clocks : Clocks n σ
  pub plain : (step : Step) → Memᴰ step σ → (g : Guard) → Memᴰ g step.guards → Plain g

-- the true reading of clock j at time t, after scans accepted at some times
abbrev pub since : List Step → List ℕ → ℕ → ℕ → ℕ
since σ times j t = t - moments_of times (last_reset σ times j)

-- A shift has kept: the step and the counter of its record are those of the scans accepted; each reading is the true one at the last of
-- them, held; no clock was last reset after it; and the accepted scans are a run.
pub record Kept (σ : List Step) (n first : ℕ) (s : Shift) : Type 0 where
  pub step : s.running.step ≡ length s.times % length σ + 1
  pub counter : s.running.counter ≡ counter_at first (last_time s.times)
  pub past : (j : ℕ) → moments_of s.times (last_reset σ s.times j) ≤ last_time s.times
  pub readings : (i : ℕ) → i < n → get_or s.running.readings i 0 ≡ held (since σ s.times (i + 1) (last_time s.times))
  pub run : Run 1 (steps_to σ (length s.times)) (moments_of s.times) no_reading

-- the shift after what a scan at time t gives
abbrev pub shift_with : Shift → ℕ → Scanned → Shift
shift_with s t x = record { running = x.running; times = times_with x.verdict s.times t }

-- the readings that a scan at time t is tested on
abbrev pub readings_at : ℕ → ℕ → Running → ℕ → List ℕ
readings_at n first r t = aged n (elapsed_of r.counter (counter_at first t)) r.readings

-- the step after the one due is due after m + 1 steps
following_due : (L m : ℕ) → 0 < L → following L (m % L + 1) ≡ suc m % L + 1
following_due L m p = go (ℕ_discrete (m % L + 1) L)
  where
    go : Dec (m % L + 1 ≡ L) → following L (m % L + 1) ≡ suc m % L + 1
    go (yes e) =
        let w : suc (m % L) ≡ L = omega arith in
        rw (eq-eqb (m % L + 1) L e) (omega (arith, suc-mod m L ∙ ap (λ k. k % L) w ∙ mod_self L))
    go (no h) =
        let w : suc (m % L) < L = omega (arith, mod-lt m p) in
        rw (ne_eqb (m % L + 1) L h) (omega (arith, suc-mod m L ∙ mod-eq_of_lt w))

-- with all starting readings 0, a reading is the time since the last reset, or since log-in
reading_since : (u : ℕ → ℕ) (r i : ℕ) → u 0 ≡ 0 → reading u 0 r i ≡ u i - u r
reading_since u zero i e = omega arith
reading_since u (suc r) i e = omega arith

module _ (σ : List Step) (n first : ℕ) (w : Limits σ n) where
  -- Log-in keeps it.
  pub kept_begun : first < 65536 → Kept σ n first (record { running = log_in first; times = [] })
  unfolding zeroed_by last_time
  kept_begun h =
      record {
        step = omega (arith, zero-mod (length σ));
        counter = omega arith;
        past = λ j. omega arith;
        readings = λ i l. get_or-replicate 6 i 0 0 (omega (arith, w.few)) ∙ omega arith;
        run = record { start = refl; goes = done };
      }

  module _ (s : Shift) (k : Kept σ n first s) where
    -- the step that is due
    abbrev due_step : Step
    due_step = due σ s.running.step

    -- it is a step of the table
    due_member : Memᴰ due_step σ
    due_member = member_at σ _ _ (omega (arith, k.step, mod-lt (length s.times) w.some))

    -- the record is one that the table can go on from
    pub kept_fits : fits n (length σ) s.running ≡ true
    kept_fits =
        fits_true n (length σ) s.running (omega (arith, k.step))
        (omega (arith, k.step, mod-lt (length s.times) w.some))
        (λ i l. omega (arith, k.readings i l))

    -- ---- a scan at a time near the last one
    module _ (t : ℕ) (near : Near s.times t) where
      -- the readings that its guards are tested on
      abbrev readings : List ℕ
      readings = readings_at n first s.running t

      -- the elapsed ticks are the time that has passed
      elapsed : elapsed_of s.running.counter (counter_at first t) ≡ t - last_time s.times
      elapsed =
          let e : t ≡ last_time s.times + (t - last_time s.times) = omega (arith, near.later) in
          ap₂ elapsed_of k.counter (ap (counter_at first) e)
          ∙ elapsed_passed first (last_time s.times) (t - last_time s.times) (omega (arith, near.later, near.soon))

      -- they are the true ones, held
      readings_held : (i : ℕ) → i < n → get_or readings i 0 ≡ held (since σ s.times (i + 1) t)
      readings_held i l =
          aged_at n (elapsed_of s.running.counter (counter_at first t)) s.running.readings i w.few l
          ∙ ap₂ later_of (k.readings i l) elapsed
          ∙ held_later (since σ s.times (i + 1) (last_time s.times)) (t - last_time s.times)
          ∙ ap held (omega (arith, k.past (i + 1), near.later))

      -- the true reading, as a run has it
      true_reading : (j : ℕ)
          → reading (moments_of (s.times ++ (t ∷ []))) 0 (last_reset σ s.times j) (suc (length s.times)) ≡ since σ s.times j t
      true_reading j =
          reading_since (moments_of (s.times ++ (t ∷ []))) (last_reset σ s.times j) (suc (length s.times)) refl
          ∙ ap₂ ◌-◌ (moments_new s.times t) (moments_before s.times t _ (reset_early σ w.some s.times j))

      -- so they tell of each guard whether it holds
      pub kept_tells : Tells (HoldsAt σ s.times t) readings due_step.guards
      kept_tells g m =
          iff_trans
          (subst₂ (λ x y. (compares g.relation g.constant x ≡ true) ↔ Compares g.relation (g.constant * 1) y)
          (sym (readings_held (g.clock - 1) (omega (arith, on.0, on.1)) ∙ ap (λ j. held (since σ s.times j t)) (omega (arith, on.0))))
          (sym (true_reading g.clock))
          (compares_held g.relation g.constant (since σ s.times g.clock t) ((w.fair due_step due_member).guards g m).small))
          (iff_symm (passes_plain 1 _ no_reading (last_reset σ s.times) (suc (length s.times)) g (w.plain due_step due_member g m)))
        where
          on : OnClocks n g
          on = w.clocks due_step due_member g m

      -- An accepted scan keeps it.
      kept_accepted : Every (HoldsAt σ s.times t) due_step.guards
          → Kept σ n first (shift_with s t (decided σ s.running (counter_at first t) readings 0))
      kept_accepted h =
          record {
            step = ap (following (length σ)) k.step ∙ following_due (length σ) m w.some ∙ ap (λ i. i % length σ + 1) (sym size);
            counter = ap (counter_at first) (sym (last_new s.times t));
            past = λ j. rw (zeroing, last_new s.times t) (past j);
            readings = λ i l. rw (zeroing, last_new s.times t) (after i l);
            run = run_new σ w.some s.times t s.running.step k.step near.later h k.run;
          }
        where
          m : ℕ
          m = length s.times

          u : ℕ → ℕ
          u = moments_of (s.times ++ (t ∷ []))

          z : ℕ → ℕ
          z = last_reset σ s.times

          size : length (s.times ++ (t ∷ [])) ≡ suc m
          size = omega (arith, length-append s.times (t ∷ []))

          zeroing : last_reset σ (s.times ++ (t ∷ [])) ≡ zeroed due_step (suc m) z
          zeroing = reset_new σ w.some s.times t s.running.step k.step

          before : (j : ℕ) → u (z j) ≡ moments_of s.times (z j)
          before j = moments_before s.times t (z j) (reset_early σ w.some s.times j)

          past : (j : ℕ) → u (zeroed due_step (suc m) z j) ≤ t
          past j =
              zeroed_cases (λ a b. u a ≤ t) due_step (suc m) z z j
              (λ e. omega (arith, moments_new s.times t))
              (λ e. omega (arith, before j, k.past j, near.later))

          after : (i : ℕ) → i < n → get_or (cleared due_step readings) i 0 ≡ held (t - u (zeroed due_step (suc m) z (i + 1)))
          after i l =
              zeroed_cases (λ a b. get_or (cleared due_step readings) i 0 ≡ held (t - u a)) due_step (suc m) z z (i + 1)
              (λ e. cleared_reset due_step readings i (omega (arith, w.few)) e ∙ omega (arith, moments_new s.times t))
              (λ e. cleared_kept due_step readings i (omega (arith, w.few)) e
              ∙ readings_held i l
              ∙ ap (λ x. held (t - x)) (sym (before (i + 1))))

      -- So does every scan.
      pub kept_scanned : Kept σ n first (shift_with s t (scanned σ n s.running (counter_at first t)))
      unfolding scanned
      kept_scanned = go (first_failing 0 due_step.guards readings) refl
        where
          go : (b : ℕ) → first_failing 0 due_step.guards readings ≡ b
              → Kept σ n first (shift_with s t (decided σ s.running (counter_at first t) readings b))
          go zero e = kept_accepted ((none_failing (HoldsAt σ s.times t) readings 0 due_step.guards kept_tells).0 e)
          go (suc b) e = k
