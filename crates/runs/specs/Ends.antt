-- Where a run begins and ends: its configurations told by the row of its times.
use Rattle.std.specs.Prelude.{◌≡◌, refl, Bool, true, false, List, [], ◌∷◌, ◌++◌, ℕ, zero, suc, ◌+◌, ◌-◌, ◌≤◌, ◌<◌, length}
use Rattle.std.proofs.Common.{sym, ap, ◌∙◌, arith}
use mathlib.Core.List.Memᴰ
use Rattle.std.proofs.Math.Decide.{dec_le}
use Rattle.table.specs.Step.{Step, resets, end_of, Fair, Fairs}
use Rattle.runs.specs.Run.{zeroed, Run}
use Rattle.runs.specs.Demand.{Holds, plus, guards_demands, steps_demands, start_demands, demands, any_starts, Clocks, Places}
use Rattle.runs.specs.Tools.{Every, every_nil, every_cons, every_append}
use Rattle.runs.specs.Steps.{Config, Same, Old, Move, Steps, stay, move, fairs_head, fairs_tail, steps_old, steps_same, move_old}
use Rattle.runs.specs.Readings.{zeroed_true, zeroed_false}
use Rattle.runs.specs.RunSteps.{Starting, times, times_first, old_starting, steps_run, steps_run_times}
use Rattle.runs.specs.RunLaws.{run_readings}
use Rattle.runs.specs.Allowed.{any_allowed}
use Rattle.runs.specs.Satisfies.{Satisfies, MetAt, guards_satisfies}
use Rattle.runs.specs.Rows.{row_at, row_now, row_past, run_row}

-- The moments of the last resets when the steps σ, which follow moment i, are past; they were z before.
unfoldable pub resets_after : List Step → ℕ → (ℕ → ℕ) → ℕ → ℕ
resets_after [] i z = z
resets_after (s ∷ σ) i z = resets_after σ (suc i) (zeroed s (suc i) z)

-- The configuration at moment i, when clock j was last reset at moment z j and the times of the moments are x.
unfoldable pub conf_at : (ℕ → ℕ) → ℕ → (ℕ → ℕ) → Config
conf_at x i z zero = x i
conf_at x i z (suc j) = x (z (suc j))

pub conf_now : (x : ℕ → ℕ) (i : ℕ) (z : ℕ → ℕ) → conf_at x i z 0 ≡ x i
unfolding conf_at
conf_now x i z = refl

pub conf_clock : (x : ℕ → ℕ) (i : ℕ) (z : ℕ → ℕ) (j : ℕ) → 0 < j → conf_at x i z j ≡ x (z j)
unfolding conf_at
conf_clock x i z zero p = absurd (omega arith)
conf_clock x i z (suc j) p = refl

-- The end of a guard's bound at moment k: its time, or that of the second clock's last reset.
conf_end : (x : ℕ → ℕ) (i k : ℕ) (z y : ℕ → ℕ) (j : ℕ) → end_of j (conf_at x k y 0) (conf_at x i z) ≡ x (end_of j k z)
unfolding end_of conf_at
conf_end x i k z y zero = refl
conf_end x i k z y (suc j) = refl

-- Two configurations are the same where now and the clocks are.
same_conf : (u : Config) (x : ℕ → ℕ) (i : ℕ) (z : ℕ → ℕ) → u 0 ≡ x i → ((j : ℕ) → 0 < j → j < 7 → u j ≡ x (z j))
    → Same u (conf_at x i z)
unfolding conf_at
same_conf u x i z e h zero l = e
same_conf u x i z e h (suc j) l = h (suc j) (omega arith) l

-- ---- From times that satisfy the demands of steps

module _ (P : ℕ) (x : ℕ → ℕ) (s : Step) (i : ℕ) (z : ℕ → ℕ) where
  conf_move : Fairs (s ∷ []) → x i ≤ x (suc i) → Old (conf_at x i z) → Every (MetAt P x (suc i) z) s.guards
      → Move P s (conf_at x i z) (conf_at x (suc i) (zeroed s (suc i) z))
  conf_move f l o g = record {
    later = omega (arith, conf_now x i z, conf_now x (suc i) (zeroed s (suc i) z));
    old = o;
    guarded = λ c m.
        let q = conf_clock x i z c.clock ((fairs_head f).guards c m).first in
        rw (q, conf_end x i (suc i) z (zeroed s (suc i) z) c.second) (g c m);
    reset = λ j p h e.
        conf_clock x (suc i) (zeroed s (suc i) z) j p ∙ ap x (zeroed_true s (suc i) z j e)
        ∙ sym (conf_now x (suc i) (zeroed s (suc i) z));
    kept = λ j p h e.
        conf_clock x (suc i) (zeroed s (suc i) z) j p ∙ ap x (zeroed_false s (suc i) z j e) ∙ sym (conf_clock x i z j p);
  }

pub satisfies_steps : (P : ℕ) (x : ℕ → ℕ) (σ : List Step) (i : ℕ) (z : ℕ → ℕ) → Fairs σ → Satisfies P x (steps_demands σ i z)
    → Old (conf_at x i z) → Steps P σ (conf_at x i z) (conf_at x (i + length σ) (resets_after σ i z))
unfolding steps_demands resets_after
satisfies_steps P x [] i z f h o =
    stay {u = conf_at x i z} {v = conf_at x (i + 0) z}
    (same_conf (conf_at x i z) x (i + 0) z (conf_now x i z ∙ ap x (omega arith)) (λ j p l. conf_clock x i z j p))
satisfies_steps P x (s ∷ σ) i z f h o =
    let all = (every_cons (Holds P x) (plus (suc i) i 0 false) (guards_demands s.guards (suc i) z ++ steps_demands σ (suc i) (zeroed s (suc i) z))).0 h in
    let rest = (every_append (Holds P x) (guards_demands s.guards (suc i) z) (steps_demands σ (suc i) (zeroed s (suc i) z))).0 all.1 in
    let m = conf_move P x s i z (one f) (order all.0) o ((guards_satisfies P x s.guards (suc i) z).1 rest.0) in
    let r = satisfies_steps P x σ (suc i) (zeroed s (suc i) z) (fairs_tail f) rest.1 (move_old P s m) in
    let e : suc i + length σ ≡ i + suc (length σ) = omega arith in
    move m (rw e at r)
  where
    one : Fairs (s ∷ σ) → Fairs (s ∷ [])
    one g = (every_cons Fair s []).1 (fairs_head g, every_nil Fair)

    order : Holds P x (plus (suc i) i 0 false) → x i ≤ x (suc i)
    order d = omega (arith, d.holds)

-- ---- From configurations to their times

-- The configuration at the end, where the times are those of the moments from i on.
steps_end : {P : ℕ} {σ : List Step} {u v : Config} (r : Steps P σ u v) (x : ℕ → ℕ) (i : ℕ) (z : ℕ → ℕ) → Same u (conf_at x i z)
    → ((n : ℕ) → n ≤ length σ → times r n ≡ x (i + n)) → Same v (conf_at x (i + length σ) (resets_after σ i z))
unfolding times resets_after
steps_end (stay {u = u} {v = v} q) x i z h e =
    same_conf v x (i + 0) z (sym (q 0 (omega arith)) ∙ e 0 (omega arith))
    (λ j p l. sym (q j l) ∙ h j l ∙ conf_clock x i z j p)
steps_end (move {s = s} {σ = σ} {u = u} {w = w} m r) x i z h e =
    let at_end_lem = steps_end r x (suc i) (zeroed s (suc i) z) next later in
    let q : suc i + length σ ≡ i + suc (length σ) = omega arith in rw q at at_end_lem
  where
    later : (n : ℕ) → n ≤ length σ → times r n ≡ x (suc i + n)
    later n l = let q : i + suc n ≡ suc i + n = omega arith in rw q at (e (suc n) (omega arith))

    now : w 0 ≡ x (suc i)
    now = let q : suc i + 0 ≡ suc i = omega arith in sym (times_first r) ∙ (rw q at (later 0 (omega arith)))

    next : Same w (conf_at x (suc i) (zeroed s (suc i) z))
    next = same_conf w x (suc i) (zeroed s (suc i) z) now clock
      where
        clock : (j : ℕ) → 0 < j → j < 7 → w j ≡ x (zeroed s (suc i) z j)
        clock j p l = go (resets s j) refl
          where
            go : (b : Bool) → resets s j ≡ b → w j ≡ x (zeroed s (suc i) z j)
            go true k = m.reset j p l k ∙ now ∙ ap x (sym (zeroed_true s (suc i) z j k))
            go false k =
                m.kept j p l k ∙ h j l ∙ conf_clock x i z j p ∙ ap x (sym (zeroed_false s (suc i) z j k))

-- ---- Both ends of a run

-- The moments of the last resets before the start, and at the end.
abbrev pub before : List Step → ℕ → ℕ
before σ j = length σ + j

abbrev pub at_end : List Step → ℕ → ℕ
at_end σ = resets_after σ 0 (before σ)

no_places : Places 6 any_starts
unfolding any_starts
no_places j p l d m = absurd (Memᴰ.not-nil m)

-- The row of a run whose readings all lie before its start, at time S, leads from one configuration to the other.
late_ends : (P S : ℕ) (σ : List Step) (t s : ℕ → ℕ) → Fairs σ → ((j : ℕ) → s j ≤ S) → Run P σ t s
    → Steps P σ (conf_at (row_at S (length σ) t s) 0 (before σ)) (conf_at (row_at S (length σ) t s) (length σ) (at_end σ))
unfolding demands
late_ends P S σ t s f b r =
    let e : 0 + length σ ≡ length σ = omega arith in
    rw e at (satisfies_steps P x σ 0 (before σ) f
    ((every_append (Holds P x) (steps_demands σ 0 (before σ)) (start_demands (length σ) any_starts 1 6)).0 all).0 old)
  where
    x : ℕ → ℕ
    x = row_at S (length σ) t s

    clocks : Clocks 6 σ
    clocks c m g i = (
      ((f c m).guards g i).first,
      omega (arith, ((f c m).guards g i).last),
      omega (arith, ((f c m).guards g i).second),
    )

    all : Satisfies P x (steps_demands σ 0 (before σ) ++ start_demands (length σ) any_starts 1 6)
    all = run_row P S 6 σ any_starts t s clocks no_places (λ j p l. b j) r (any_allowed P 6 s)

    old : Old (conf_at x 0 (before σ))
    old zero l = omega arith
    old (suc j) l =
        omega (
          arith,
          conf_clock x 0 (before σ) (suc j) (omega arith),
          conf_now x 0 (before σ),
          row_past S (length σ) t s (suc j) (omega arith),
          row_now S (length σ) t s 0 (omega arith),
        )

-- Readings above S make the same row as S.
held : ℕ → (ℕ → ℕ) → ℕ → ℕ
held S s j = S - (S - s j)

row_held : (S K : ℕ) (t s : ℕ → ℕ) (i : ℕ) → row_at S K t (held S s) i ≡ row_at S K t s i
unfolding held
row_held S K t s i = go (dec_le i K)
  where
    go : Dec (i ≤ K) → row_at S K t (held S s) i ≡ row_at S K t s i
    go (yes l) = row_now S K t (held S s) i l ∙ sym (row_now S K t s i l)
    go (no l) =
        let e : i ≡ K + (i - K) = omega arith in
        rw e (omega (
          arith,
          row_past S K t (held S s) (i - K) (omega arith),
          row_past S K t s (i - K) (omega arith),
        ))

conf_same : (x y : ℕ → ℕ) → ((k : ℕ) → x k ≡ y k) → (i : ℕ) (z : ℕ → ℕ) → Same (conf_at x i z) (conf_at y i z)
unfolding conf_at
conf_same x y e i z zero l = e i
conf_same x y e i z (suc j) l = e (z (suc j))

-- A run, with its start at time S and the last resets of its n clocks before it, leads from one configuration to the other,
pub run_ends : (P S n : ℕ) (σ : List Step) (t s : ℕ → ℕ) → Fairs σ → Clocks n σ → ((j : ℕ) → 0 < j → j ≤ n → s j ≤ S) → Run P σ t s
    → Steps P σ (conf_at (row_at S (length σ) t s) 0 (before σ)) (conf_at (row_at S (length σ) t s) (length σ) (at_end σ))
unfolding held
run_ends P S n σ t s f on b r =
    steps_same P σ f (same 0 (before σ)) (same (length σ) (at_end σ)) (late_ends P S σ t (held S s) f (λ j. omega arith)
    (run_readings P n t s (held S s) (λ j p l. omega (arith, b j p l)) σ on r))
  where
    same : (i : ℕ) (z : ℕ → ℕ) → Same (conf_at (row_at S (length σ) t (held S s)) i z) (conf_at (row_at S (length σ) t s) i z)
    same = conf_same (row_at S (length σ) t (held S s)) (row_at S (length σ) t s) (row_held S (length σ) t s)

-- and steps between two configurations are a run that leads from one to the other.
pub record RunOf (P : ℕ) (σ : List Step) (u v : Config) : Type 0 where
  pub moments : ℕ → ℕ
  pub starts : ℕ → ℕ
  pub run : Run P σ moments starts
  pub late : (j : ℕ) → starts j ≤ u 0
  pub first : Same u (conf_at (row_at (u 0) (length σ) moments starts) 0 (before σ))
  pub last : Same v (conf_at (row_at (u 0) (length σ) moments starts) (length σ) (at_end σ))

pub ends_run : (P : ℕ) (σ : List Step) (u v : Config) → Fairs σ → 0 < length σ → Steps P σ u v → RunOf P σ u v
ends_run P σ u v f l r = record {
  moments = t;
  starts = s;
  run = (steps_run P σ s u v f h r).1;
  late = λ j. omega arith;
  first = first;
  last = let e : 0 + length σ ≡ length σ = omega arith in rw e at (steps_end r x 0 (before σ) first each);
}
  where
    s : ℕ → ℕ
    s j = u 0 - u j

    old : Old u
    old = steps_old P σ l r

    h : Starting s u
    h = old_starting u old

    t : ℕ → ℕ
    t = (steps_run P σ s u v f h r).0

    x : ℕ → ℕ
    x = row_at (u 0) (length σ) t s

    first : Same u (conf_at x 0 (before σ))
    first = same_conf u x 0 (before σ)
        (omega (arith, row_now (u 0) (length σ) t s 0 (omega arith), (steps_run P σ s u v f h r).1.start))
        (λ j p k. omega (arith, row_past (u 0) (length σ) t s j p, old j k))

    each : (n : ℕ) → n ≤ length σ → times r n ≡ x (0 + n)
    each n k =
        let e : 0 + n ≡ n = omega arith in
        rw e (steps_run_times P σ s u v f h r n ∙ sym (row_now (u 0) (length σ) t s n k))
