-- A run is a run step by step, and back.
use Rattle.std.specs.Prelude.{◌≡◌, refl, ◌↔◌, ℕ, zero, suc, ◌+◌, ◌*◌, ◌-◌, ◌≤◌, ◌<◌}
use Rattle.std.proofs.Common.{sym, ◌∙◌, arith}
use mathlib.Core.List.{List, [], ◌∷◌, Memᴰ}
use Rattle.table.specs.Step.{Step, Fair, Fairs}
use Rattle.table.specs.declared.Guard.{Guard}
use Rattle.runs.specs.Run.{zeroed, Passes, Goes, done, next, Run}
use Rattle.runs.specs.Steps.{Config, Old, MetBy, Move, Steps, stay, move, fairs_head, fairs_tail, same_refl}
use Rattle.runs.specs.Steps.{move_old, after, after_now, after_reset, after_kept}
use Rattle.runs.specs.Readings.{ResetAt, ReadAt, met_reading, zeroed_cases}
use Rattle.basics.specs.Numbers.{top, top_ge}

-- the configuration u is a start with the readings s
abbrev pub Starting : (ℕ → ℕ) → Config → Type 0
Starting s u = (j : ℕ) → 0 < j → j < 7 → u j + s j ≡ u 0

-- u is the configuration after moment i, when clock j was last reset at moment z j and the start is at time S
record Linked (S : ℕ) (t s z : ℕ → ℕ) (i : ℕ) (u : Config) : Type 0 where
  now : u 0 ≡ S + t i
  old : Old u
  clocks : (j : ℕ) → 0 < j → j < 7 → ResetAt S t (s j) (z j) (u j)

-- no clock of a start was last reset after it
pub starting_old : (s : ℕ → ℕ) (u : Config) → Starting s u → Old u
starting_old s u h zero l = omega arith
starting_old s u h (suc j) l = omega (arith, h (suc j) (omega arith) l)

starting_linked : (t s : ℕ → ℕ) (u : Config) → t 0 ≡ 0 → Starting s u → Linked (u 0) t s (λ j. 0) 0 u
starting_linked t s u e h = record { now = omega arith; old = starting_old s u h; clocks = h }

-- ---- one step
module _ (P S : ℕ) (t s z : ℕ → ℕ) (i : ℕ) (c : Step) (f : Fair c) (u w : Config)
    (k : Linked S t s z i u) (now : w 0 ≡ S + t (suc i)) where
  linked_after : Move P c u w → Linked S t s (zeroed c (suc i) z) (suc i) w
  linked_after m = record { now = now; old = move_old P c m; clocks = clocks }
    where
      clocks : (j : ℕ) → 0 < j → j < 7 → ResetAt S t (s j) (zeroed c (suc i) z j) (w j)
      clocks j p l =
          zeroed_cases (λ r q. ResetAt S t (s j) r (w j)) c (suc i) z z j
          (λ e. m.reset j p l e ∙ now)
          (λ e. rw (m.kept j p l e) (k.clocks j p l))

  -- a guard holds of the reading if and only if it is met by the configurations
  guard : (g : Guard) → Memᴰ g c.guards → u 0 ≤ w 0 → MetBy P g u (w 0) ↔ Passes P t s z (suc i) g
  guard g m l =
      met_reading 6 S t s z u (w 0) (suc i)
      (record {
        now = now;
        old = λ j p b. omega (arith, k.old j (omega arith));
        reset = λ j p b. k.clocks j p (omega arith);
      })
      P g ((f.guards g m).first, omega (arith, (f.guards g m).last), omega (arith, (f.guards g m).second))

-- ---- from a run to configurations
goes_steps : (P S : ℕ) (t s z : ℕ → ℕ) (i : ℕ) (σ : List Step) (u : Config) → Fairs σ → Linked S t s z i u
    → Goes P t s σ i z → (v : Config) × Steps P σ u v
goes_steps P S t s z i [] u f k done = (u, stay (same_refl u))
goes_steps P S t s z i (c ∷ σ) u f k (next l g r) =
    let link = linked_after P S t s z i c (fairs_head f) u w k now step in
    let rest = goes_steps P S t s (zeroed c (suc i) z) (suc i) σ w (fairs_tail f) link r in
    (rest.0, move step rest.1)
  where
    w : Config
    w = after c (S + t (suc i)) u

    now : w 0 ≡ S + t (suc i)
    now = after_now c (S + t (suc i)) u

    later : u 0 ≤ w 0
    later = omega (arith, now, k.now)

    step : Move P c u w
    step =
        record {
          later = later;
          old = k.old;
          guarded = λ q m. (guard P S t s z i c (fairs_head f) u w k now q m later).1 (g q m);
          reset = λ j p h b. after_reset c (S + t (suc i)) u j p b ∙ sym now;
          kept = λ j p h b. after_kept c (S + t (suc i)) u j p b;
        }

-- A run leads from its start through configurations.
pub run_steps : (P : ℕ) (σ : List Step) (t s : ℕ → ℕ) (u : Config) → Fairs σ → Starting s u
    → Run P σ t s → (v : Config) × Steps P σ u v
run_steps P σ t s u f h r = goes_steps P (u 0) t s (λ j. 0) 0 σ u f (starting_linked t s u r.start h) r.goes

-- ---- from configurations to a run
-- the times of the configurations, from the first on
unfoldable pub times : {P : ℕ} {σ : List Step} {u v : Config} → Steps P σ u v → ℕ → ℕ
times {u = u} (stay r) i = u 0
times {u = u} (move m r) zero = u 0
times (move m r) (suc i) = times r i

pub times_first : {P : ℕ} {σ : List Step} {u v : Config} (r : Steps P σ u v) → times r 0 ≡ u 0
unfolding times
times_first (stay r) = refl
times_first (move m r) = refl

times_later : {P : ℕ} {σ : List Step} {u v : Config} (r : Steps P σ u v) (i : ℕ) → u 0 ≤ times r i
unfolding times
times_later (stay r) i = omega arith
times_later (move m r) zero = omega arith
times_later (move m r) (suc i) = omega (arith, m.later, times_later r i)

steps_goes : (P S : ℕ) (t s z : ℕ → ℕ) (i : ℕ) {σ : List Step} {u v : Config} → Fairs σ → Linked S t s z i u
    → (r : Steps P σ u v) → ((n : ℕ) → times r n ≡ S + t (i + n)) → Goes P t s σ i z
unfolding times
steps_goes P S t s z i f k (stay r) e = done
steps_goes P S t s z i f k (move {s = c} {u = u} {w = w} m r) e =
    let link = linked_after P S t s z i c (fairs_head f) u w k now m in
    next
    later
    (λ g q. (guard P S t s z i c (fairs_head f) u w k now g q m.later).0 (m.guarded g q))
    (steps_goes P S t s (zeroed c (suc i) z) (suc i) (fairs_tail f) link r rest)
  where
    rest : (n : ℕ) → times r n ≡ S + t (suc i + n)
    rest n = let h : i + suc n ≡ suc i + n = omega arith in rw h at (e (suc n))

    now : w 0 ≡ S + t (suc i)
    now = let h : suc i + 0 ≡ suc i = omega arith in sym (times_first r) ∙ (rw h at (rest 0))

    later : t i ≤ t (suc i)
    later = omega (arith, m.later, k.now, now)

-- Configurations that lead on from a start make a run.
pub steps_run : (P : ℕ) (σ : List Step) (s : ℕ → ℕ) (u v : Config) → Fairs σ → Starting s u
    → Steps P σ u v → (t : ℕ → ℕ) × Run P σ t s
steps_run P σ s u v f h r = (t, record { start = zero_start; goes = steps_goes P (u 0) t s (λ j. 0) 0 f link r each })
  where
    t : ℕ → ℕ
    t i = times r i - u 0

    zero_start : t 0 ≡ 0
    zero_start = omega (arith, times_first r)

    link : Linked (u 0) t s (λ j. 0) 0 u
    link = starting_linked t s u zero_start h

    each : (n : ℕ) → times r n ≡ u 0 + t (0 + n)
    each n = let e : 0 + n ≡ n = omega arith in rw e (omega (arith, times_later r n))

-- Its times are those of the configurations.
pub steps_run_times : (P : ℕ) (σ : List Step) (s : ℕ → ℕ) (u v : Config) (f : Fairs σ) (h : Starting s u) (r : Steps P σ u v)
    (n : ℕ) → times r n ≡ u 0 + (steps_run P σ s u v f h r).0 n
unfolding steps_run
steps_run_times P σ s u v f h r n = omega (arith, times_later r n)

-- ---- a start for any readings, and readings for any start
-- the start with readings s, as early as can be
pub origin : (ℕ → ℕ) → Config
origin s zero = top 7 s
origin s (suc j) = top 7 s - s (suc j)

pub origin_starting : (s : ℕ → ℕ) → Starting s (origin s)
unfolding origin
origin_starting s zero p l = absurd (omega arith)
origin_starting s (suc j) p l = omega (arith, top_ge 7 s (suc j) l)

pub old_starting : (u : Config) → Old u → Starting (λ j. u 0 - u j) u
old_starting u o j p l = omega (arith, o j l)
