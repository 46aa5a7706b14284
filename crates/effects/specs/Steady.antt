-- Where more rounds no longer tighten the left part of an effect, it tells from where every number of rounds runs.
use Rattle.std.specs.Prelude.{◌≡◌, refl, ◌↔◌, List, ℕ, ◌+◌, ◌*◌, ◌-◌, ◌<◌, length}
use Rattle.std.proofs.Common.{ap, arith, mul-pos}
use Rattle.table.specs.Step.{Step, Fairs}
use Rattle.runs.specs.Run.{copies}
use Rattle.runs.specs.Copies.{fairs_copies}
use Rattle.runs.specs.Steps.{Config, Steps, steps_same}
use Rattle.runs.specs.RunSteps.{Starting, run_steps, steps_run}
use Rattle.runs.specs.Lasting.{RunsFrom, Lasting}
use Rattle.zones.specs.Values.{sat_unscale}
use Rattle.zones.specs.Matrix.{Matrix, Solves}
use Rattle.effects.specs.Describes.{Describes}
use Rattle.effects.specs.Begins.{Begins}
use Rattle.effects.specs.Settle.{From, Left, left_sound, left_exact, from_begins, onward}
use Rattle.effects.specs.Count.{limit, endless}

-- Every number of rounds of τ runs from u, scaled and shifted.
abbrev pub Lasts : List Step → ℕ → Config → Type 0
Lasts τ P u = (m : ℕ) → From (copies τ m) P u

-- The left part of M is solved by these starts and no others.
pub record Steady (τ : List Step) (M : Matrix) : Type 0 where
  pub is : (P : ℕ) (u : Config) → 0 < P → Solves 7 P M u ↔ Lasts τ P u

-- A start of a run, scaled and shifted, solves the left part.
from_solves : {σ : List Step} {M : Matrix} → Fairs σ → Describes σ M → (P : ℕ) (u : Config) → 0 < P → From σ P u
    → Solves 7 P M u
from_solves {σ} {M} f d P u p r a b ha hb =
    sat_unscale r.scale r.shift P (u a) (u b) (M a b) r.scale_pos
    (left_sound f d (r.scale * P) (λ c. r.scale * u c + r.shift) r.end (mul-pos r.scale_pos p) r.run a b ha hb)

-- A start from u, scaled and shifted, that is scaled and shifted again.
from_again : {σ : List Step} → Fairs σ → (P c h : ℕ) (u : Config) → 0 < c → From σ (c * P) (λ a. c * u a + h) → From σ P u
from_again {σ} f P c h u p r = record {
  scale = r.scale * c;
  shift = r.scale * h + r.shift;
  scale_pos = mul-pos r.scale_pos p;
  end = r.end;
  run = run;
}
  where
    parts : r.scale * (c * P) ≡ r.scale * c * P
    parts = omega arith

    run : Steps (r.scale * c * P) σ (λ a. r.scale * c * u a + (r.scale * h + r.shift)) r.end
    run = steps_same (r.scale * c * P) σ f (λ a l. omega arith) (λ a l. refl) (rw parts at r.run)

module _ (τ : List Step) (f : Fairs τ) where
  -- It is so where n rounds, more than k, leave the left part as it was,
  pub steady_settled : (k n : ℕ) → k < n → (A B : Matrix) → Describes (copies τ k) A → Describes (copies τ n) B
      → Left A B → Steady τ A
  steady_settled k n l A B dA dB same = record {
    is = λ P u p. (
      (λ s m. onward τ f k n l A B dA dB same m P u p s),
      λ r. from_solves (fairs_copies τ k f) dA P u p (r k),
    );
  }

  -- and where the limit of rounds is reached.
  pub steady_limit : 0 < length τ → (A : Matrix) → Describes (copies τ limit) A → Steady τ A
  steady_limit long A dA = record {
    is = λ P u p. (
      (λ s m. out P u p (left_exact (fairs_copies τ limit f) dA P u p s) m),
      λ r. from_solves (fairs_copies τ limit f) dA P u p (r limit),
    );
  }
    where
      out : (P : ℕ) (u : Config) → 0 < P → From (copies τ limit) P u → Lasts τ P u
      out P u p r m =
          from_again (fairs_copies τ m f) P r.scale r.shift u r.scale_pos
          (endless τ f long (r.scale * P) (λ a. r.scale * u a + r.shift) r.end (mul-pos r.scale_pos p) r.run m)

  -- Where any number of rounds runs from an allowed start, and such a left part is solved by it, every number of rounds does.
  pub steady_always : {A : Matrix} → Steady τ A → (D : Matrix) (k : ℕ) → Describes (copies τ k) A → Begins D (copies τ k)
      → (m : ℕ) → Begins D (copies τ m)
  steady_always t D k d r m =
      from_begins D (copies τ m) r.parts r.first r.positive r.allowed
      ((t.is r.parts r.first r.positive).0
      (left_sound (fairs_copies τ k f) d r.parts r.first r.end r.positive r.run) m)

-- ---- Readings and configurations

module _ (P : ℕ) (σ : List Step) (f : Fairs σ) (s : ℕ → ℕ) (u : Config) (h : Starting s u) where
  scaled_start : (c k : ℕ) → Starting (λ j. c * s j) (λ a. c * u a + k)
  scaled_start c k j p l = omega (arith, ap (λ t. c * t) (h j p l))

  -- A run from the readings s starts from u, scaled and shifted,
  pub runs_from : RunsFrom P σ s → From σ P u
  runs_from r =
      let t = run_steps (r.finer * P) σ r.moments (λ j. r.finer * s j) (λ a. r.finer * u a + 0) f
      (scaled_start r.finer 0) r.run in
      record { scale = r.finer; shift = 0; scale_pos = r.positive; end = t.0; run = t.1 }

  -- and the other way round.
  pub from_runs : From σ P u → RunsFrom P σ s
  from_runs r =
      let t = steps_run (r.scale * P) σ (λ j. r.scale * s j) (λ a. r.scale * u a + r.shift) r.end f
      (scaled_start r.scale r.shift) r.run in
      record { finer = r.scale; positive = r.scale_pos; moments = t.0; run = t.1 }

module _ (P : ℕ) (τ : List Step) (f : Fairs τ) (s : ℕ → ℕ) (u : Config) (h : Starting s u) where
  pub lasting_lasts : Lasting P τ s ↔ Lasts τ P u
  lasting_lasts = (
    (λ r m. runs_from P (copies τ m) (fairs_copies τ m f) s u h (r.runs m)),
    λ r. record { runs = λ k. from_runs P (copies τ k) (fairs_copies τ k f) s u h (r k) },
  )
