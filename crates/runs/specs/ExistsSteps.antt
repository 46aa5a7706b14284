-- A run exists if and only if the steps lead on from the configuration of an allowed start.
use Rattle.std.specs.Prelude.{◌↔◌, List, ℕ, zero, suc, ◌-◌, ◌≤◌, ◌<◌}
use Rattle.std.proofs.Common.{arith}
use Rattle.table.specs.Step.{Step, Fairs}
use Rattle.runs.specs.Demand.{Holds, Starts, Exists, Places}
use Rattle.runs.specs.Tools.{Every}
use Rattle.runs.specs.Steps.{Config, Old, Steps}
use Rattle.runs.specs.RunSteps.{Starting, starting_old, run_steps, steps_run}
use Rattle.runs.specs.RunSteps.{origin, origin_starting, old_starting}
use Rattle.runs.specs.Allowed.{Agrees, allowed_holds}

-- the steps σ lead on from a configuration that D allows
pub record Walk (n : ℕ) (D : Starts) (σ : List Step) : Type 0 where
  pub parts : ℕ
  pub positive : 0 < parts
  pub first : Config
  pub end : Config
  pub old : Old first
  pub allowed : (j : ℕ) → 0 < j → j ≤ n → Every (Holds parts first) (D j)
  pub steps : Steps parts σ first end

starting_agrees : (n : ℕ) (s : ℕ → ℕ) (u : Config) → n < 7 → Starting s u → Agrees n s u
starting_agrees n s u b h zero l = omega arith
starting_agrees n s u b h (suc a) l = h (suc a) (omega arith) (omega arith)

-- A run exists exactly where the steps lead on in configurations.
pub exists_walk : (n : ℕ) (D : Starts) (σ : List Step) → n < 7 → Fairs σ → Places n D → Exists n D σ ↔ Walk n D σ
exists_walk n D σ b f g = (there, back)
  where
    there : Exists n D σ → Walk n D σ
    there r =
        let u = origin r.starts in
        let h = origin_starting r.starts in
        let w = run_steps r.parts σ r.moments r.starts u f h r.run in
        record {
          parts = r.parts;
          positive = r.positive;
          first = u;
          end = w.0;
          old = starting_old r.starts u h;
          allowed = (allowed_holds r.parts n D r.starts u g (starting_agrees n r.starts u b h)).0 r.allowed;
          steps = w.1;
        }

    back : Walk n D σ → Exists n D σ
    back r =
        let s : ℕ → ℕ = λ j. r.first 0 - r.first j in
        let h : Starting s r.first = old_starting r.first r.old in
        let t = steps_run r.parts σ s r.first r.end f h r.steps in
        record {
          parts = r.parts;
          positive = r.positive;
          moments = t.0;
          starts = s;
          allowed = (allowed_holds r.parts n D s r.first g (starting_agrees n s r.first b h)).1 r.allowed;
          run = t.1;
        }
