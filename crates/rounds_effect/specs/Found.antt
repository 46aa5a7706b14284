-- From the effect found to the answer.
use Rattle.std.specs.Prelude.{◌≡◌, refl, Bool, true, false, List, ℕ, ◌+◌, ◌*◌, ◌^◌, ◌≤◌, ◌<◌, ℤ, length}
use Rattle.std.proofs.Common.{subst, arith, mul-pos}
use Rattle.table.specs.declared.Table.{Table}
use Rattle.table.specs.Step.{Step, steps_of, Good}
use Rattle.runs.specs.declared.Start.TheVariants.{MidShift}
use Rattle.runs.specs.Run.{copies}
use Rattle.runs.specs.Steps.{Steps}
use Rattle.runs.specs.Copies.{copies_one, fairs_copies, length_copies, clocks_copies}
use Rattle.runs.specs.Demand.{starts_of, Exists, Clocks, Places}
use Rattle.runs.specs.Start.{upper_places, start_upper}
use Rattle.zones.specs.Codes.{NONE, coded_top, within_coded}
use Rattle.effects.specs.Describes.{Describes, NoRun}
use Rattle.effects.specs.Begins.{fewer_steps, no_run}
use Rattle.effects.specs.Known.{rounds_one}
use Rattle.effects.specs.Starts.{start_matrix, permits, exists_begins}
use Rattle.effects.specs.Tells.{Tells}
use Rattle.effects.specs.Joining.{effect_joinable}
use Rattle.effects.specs.Tightest.{describes_tightest, describes_exists}
use Rattle.effects.specs.Whole.{Side, whole}
use Rattle.gluing.specs.Laying.{code, effect_at}
use Rattle.joins.specs.Round.{UsesAll}
use Rattle.joins.specs.Rounds.{Tabled, good_tabled, sized_rounds}
use Rattle.powers.specs.Powers.{Once, Rounded}
use Rattle.telling.specs.Told.{ToldTo}
use Rattle.rounds_effect.specs.declared.Effect.TheVariants as effect
use Rattle.rounds_effect.specs.Answer as answer

module _ (t : Table) (good : Good t) (uses : UsesAll (t.clocks + 1) t) where
  abbrev n : ℕ
  n = t.clocks

  abbrev w : ℕ
  w = t.clocks + 1

  abbrev τ : List Step
  τ = steps_of t

  pub side : Side (t.clocks + 1)
  side = (omega arith, omega (arith, good.clocks_few))

  tabled : Tabled (steps_of t)
  tabled = good_tabled t good

  -- Its guards are on its clocks.
  on : Clocks t.clocks (steps_of t)
  on s m g i = (
    ((good.fair s m).guards g i).first,
    omega (arith, ((uses s m).guards g i).0),
    omega (arith, ((uses s m).guards g i).1),
  )

  places : Places t.clocks (starts_of MidShift)
  places = upper_places t.clocks (starts_of MidShift) (start_upper MidShift t.clocks)

  -- Rounds without a run in configurations have none at all.
  halts : (k : ℕ) → NoRun (copies τ k) → ¬ Exists t.clocks (starts_of MidShift) (copies τ k)
  halts k h r =
      let b : t.clocks < 7 = omega (arith, good.clocks_few) in
      no_run (start_matrix n (starts_of MidShift)) h
      (exists_begins n (starts_of MidShift) (start_matrix n (starts_of MidShift)) b places (permits n (starts_of MidShift) b places)
      (copies τ k) (fairs_copies τ k good.fair) r)

  module _ {ok : Bool} (m : List ℕ) (h : Tells (steps_of t) ok (whole (t.clocks + 1) (effect_at m 0))) where
    -- One round has no run,
    pub first_halts : ok ≡ false → (k : ℕ) → 0 < k → (b : List ℤ) (l : List ℕ)
        → answer.Answered t.clocks (copies (steps_of t) k) b b l l effect.Halts
    first_halts e k p b l = record { none = halts k stuck; bounds = refl; marks = refl }
      where
        stuck : NoRun (copies τ k)
        stuck P u v q r =
            let s = fewer_steps τ 1 k P p r in
            h.stuck e P u s.0 q (subst (λ (σ : List Step). Steps P σ u s.0) (copies_one τ) s.1)

    -- or an effect,
    pub first_once : ok ≡ true → Once (t.clocks + 1) (steps_of t) m
    first_once e = record { table = tabled; one = rounds_one (h.runs e) }

  module _ {k : ℕ} (some : 0 < k) (few : k ≤ 1048576) {ok : Bool} {p : ℕ} {m : List ℕ}
      (h : Rounded (t.clocks + 1) (steps_of t) k ok p m) where
    -- and so have k rounds,
    pub all_halt : ok ≡ false → (b : List ℤ) (l : List ℕ)
        → answer.Answered t.clocks (copies (steps_of t) k) b b l l effect.Halts
    all_halt e b l = record { none = halts k (h.tells.stuck e); bounds = refl; marks = refl }

    module _ (e : ok ≡ true) where
      d : Describes (copies τ k) (whole w (effect_at m (p * 196)))
      d = h.tells.runs e

      pub codes_top : (a b : ℕ) → a < t.clocks + 1 + (t.clocks + 1) → b < t.clocks + 1 + (t.clocks + 1)
          → code m (p * 196) a b ≤ NONE
      codes_top a b ha hb =
          coded_top (2 ^ 52) (code m (p * 196) a b) (omega arith) (within_coded (2 ^ 52) (code m (p * 196) a b)
          ((effect_joinable w side (effect_at m (p * 196)) (sized_rounds tabled k some (omega arith)) d).within a b ha hb))

      -- whose entries are told.
      pub all_told : (b b' : List ℤ) (l l' : List ℕ)
          → ToldTo (t.clocks + 1 + (t.clocks + 1)) (p * 196) (t.clocks + 1 + (t.clocks + 1)) m b b' l l'
          → answer.Answered t.clocks (copies (steps_of t) k) b b' l l' (effect.Told (t.clocks + 1 + (t.clocks + 1)))
      all_told b b' l l' r = record {
        runs = describes_exists n (fairs_copies τ k good.fair) long d;
        moments = omega arith;
        cells = λ u v hu hv. record {
          bound = effect_at m (p * 196) u v;
          tightest = describes_tightest n side (copies τ k) (fairs_copies τ k good.fair) (clocks_copies n τ k on) long
              (effect_at m (p * 196)) d u v hu hv;
          ticks = r.bounds u v hu hv;
          mark = r.marks u v hu hv;
        };
        sizes = r.sizes;
        rest = r.rest;
      }
        where
          long : 0 < length (copies τ k)
          long = omega (arith, length_copies τ k, mul-pos some tabled.some)
