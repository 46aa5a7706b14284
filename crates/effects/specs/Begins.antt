-- Runs from an allowed start. Which starts are allowed is told by a matrix D among the seven vertices of a
-- configuration: 0 the start, j the last reset of clock j before it.
use Rattle.std.proofs.Common.{subst, mul-pos}
use Rattle.std.specs.Prelude.{List, ℕ, ◌+◌, ◌*◌, ◌-◌, ◌≤◌, ◌<◌}
use Rattle.table.specs.Step.{Step}
use Rattle.runs.specs.Run.{copies}
use Rattle.runs.specs.Copies.{copies_split}
use Rattle.runs.specs.Steps.{Config, Steps, steps_split}
use Rattle.zones.specs.Values.{sat_scale}
use Rattle.zones.specs.Matrix.{Matrix, Solves}
use Rattle.effects.specs.Describes.{Scaled, Describes, NoRun}

-- A run of σ starts where D allows it.
pub record Begins (D : Matrix) (σ : List Step) : Type 0 where
  pub parts : ℕ
  pub positive : 0 < parts
  pub first : Config
  pub end : Config
  pub allowed : Solves 7 parts D first
  pub run : Steps parts σ first end

-- Where nothing runs, nothing runs from an allowed start.
pub no_run : (D : Matrix) {σ : List Step} → NoRun σ → ¬ Begins D σ
no_run D n r = n r.parts r.first r.end r.positive r.run

-- An allowed start, scaled and shifted, is allowed.
pub allowed_scale : (D : Matrix) (P c h : ℕ) (u : Config) → 0 < c
    → Solves 7 P D u → Solves 7 (c * P) D (λ a. c * u a + h)
allowed_scale D P c h u p s a b ha hb = sat_scale c h P (u a) (u b) (D a b) p (s a b ha hb)

-- ---- Fewer rounds

-- A run of k rounds begins with one of j,
pub fewer_steps : (τ : List Step) (j k P : ℕ) {u v : Config} → j ≤ k → Steps P (copies τ k) u v
    → (w : Config) × Steps P (copies τ j) u w
fewer_steps τ j k P {u} {v} l r =
    let r' = subst (λ (σ : List Step). Steps P σ u v) (copies_split τ j k l) r in
    let t = steps_split P (copies τ j) (copies τ (k - j)) r' in
    (t.0, t.1)

-- from the same start.
pub fewer : (D : Matrix) (τ : List Step) (j k : ℕ) → j ≤ k → Begins D (copies τ k) → Begins D (copies τ j)
fewer D τ j k l r =
    let t = fewer_steps τ j k r.parts l r.run in
    record { parts = r.parts; positive = r.positive; first = r.first; end = t.0; allowed = r.allowed; run = t.1 }

-- ---- From an effect

-- A solution of an effect, from a start that D allows, is the two ends of a run that begins there, up to scale and shift.
pub effect_begins : (D : Matrix) {σ : List Step} {M : Matrix} → Describes σ M → (P : ℕ) (x : ℕ → ℕ) → 0 < P
    → Solves 14 P M x → Solves 7 P D x → Begins D σ
effect_begins D {σ} d P x p s a =
    let t : Scaled σ P x = d.exact P x p s in
    record {
      parts = t.scale * P;
      positive = mul-pos t.scale_pos p;
      first = λ a. t.scale * x a + t.shift;
      end = λ a. t.scale * x (7 + a) + t.shift;
      allowed = allowed_scale D P t.scale t.shift x t.scale_pos a;
      run = t.run;
    }
