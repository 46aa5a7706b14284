-- The allowed starts as a matrix: a run exists exactly where one begins at a start that the matrix allows.
use Rattle.std.specs.Prelude.{◌↔◌, List, [], ℕ, zero, suc, ◌-◌, ◌≤◌, ◌<◌, length}
use Rattle.std.proofs.Math.Logic.Iff.{trans as iff_trans}
use Rattle.std.proofs.Common.{arith}
use Rattle.table.specs.Step.{Step, Fairs}
use Rattle.runs.specs.Run.{copies}
use Rattle.runs.specs.declared.Start.{Start}
use Rattle.runs.specs.Demand.{Holds, Starts, starts_of, Exists, Places}
use Rattle.runs.specs.Start.{Upper}
use Rattle.runs.specs.Satisfies.{Satisfies}
use Rattle.runs.specs.Copies.{copies_zero, exists_none, length_copies, fairs_copies}
use Rattle.runs.specs.ExistsSteps.{Walk, exists_walk}
use Rattle.runs.specs.Steps.{Config, Old, steps_old}
use Rattle.runs.specs.Tools.{Every}
use Rattle.zones.specs.Matrix.{Matrix, Solves}
use Rattle.effects.specs.Demands.{Inside, matrix_of, matrix_is, each, every_each}
use Rattle.effects.specs.Begins.{Begins}

-- Of the configurations with no clock reset after now, M is solved by those that D's demands for clocks 1 to n allow.
pub record Permits (n : ℕ) (D : Starts) (M : Matrix) : Type 0 where
  pub is : (P : ℕ) (u : Config) → 0 < P → Old u
      → Solves 7 P M u ↔ ((j : ℕ) → 0 < j → j ≤ n → Every (Holds P u) (D j))

-- The matrix of these demands.
unfoldable pub start_matrix : ℕ → Starts → Matrix
start_matrix n D = matrix_of (each n D)

-- That of a variant, where a configuration has w vertices.
abbrev pub starts_for : ℕ → Start → Matrix
starts_for w v = start_matrix (w - 1) (starts_of v)

module _ (n : ℕ) (D : Starts) (b : n < 7) (places : Places n D) where
  -- It is solved by the configurations that satisfy them.
  pub start_is : (P : ℕ) (u : Config) → 0 < P → Solves 7 P (start_matrix n D) u ↔ Satisfies P u (each n D)
  unfolding start_matrix
  start_is P u p = matrix_is 7 P u p (each n D) inside
    where
      inside : Inside 7 (each n D)
      inside = (every_each (λ d. (d.from < 7) × (d.to < 7)) D n).1
          (λ j p l d m. let h = places j p l d m in (omega (arith, h.0), omega (arith, h.1)))

  pub permits : Permits n D (start_matrix n D)
  permits = record { is = λ P u p old. iff_trans (start_is P u p) (every_each (Holds P u) D n) }

module _ (n : ℕ) (D : Starts) (M : Matrix) (b : n < 7) (places : Places n D) (permits : Permits n D M) where
  -- Where a run exists, one begins at a configuration that M allows,
  pub exists_begins : (σ : List Step) → Fairs σ → Exists n D σ → Begins M σ
  exists_begins σ f r = go ((exists_walk n D σ b f places).0 r)
    where
      go : Walk n D σ → Begins M σ
      go w = record {
        parts = w.parts;
        positive = w.positive;
        first = w.first;
        end = w.end;
        allowed = (permits.is w.parts w.first w.positive w.old).1 w.allowed;
        run = w.steps;
      }

  -- and the other way round, if there is a step.
  pub begins_exists : (σ : List Step) → Fairs σ → 0 < length σ → Begins M σ → Exists n D σ
  begins_exists σ f l r = (exists_walk n D σ b f places).1 (record {
    parts = r.parts;
    positive = r.positive;
    first = r.first;
    end = r.end;
    old = old;
    allowed = (permits.is r.parts r.first r.positive old).0 r.allowed;
    steps = r.run;
  })
    where
      old : Old r.first
      old = steps_old r.parts σ l r.run

  -- So it is with k rounds, where there is a start at all.
  pub rounds_exist : (τ : List Step) → Fairs τ → 0 < length τ → Exists n D []
      → (k : ℕ) → Exists n D (copies τ k) ↔ Begins M (copies τ k)
  rounds_exist τ f long here k = (exists_begins (copies τ k) (fairs_copies τ k f), back k)
    where
      back : (k : ℕ) → Begins M (copies τ k) → Exists n D (copies τ k)
      back zero r = rw (copies_zero τ) here
      back (suc k) r =
          begins_exists (copies τ (suc k)) (fairs_copies τ (suc k) f) (omega (arith, length_copies τ (suc k))) r

-- There is one where readings of 0 are allowed.
pub starts_exist : (n : ℕ) (D : Starts) → Upper n D → Exists n D []
starts_exist n D u = rw (copies_zero []) at (exists_none n D [] 1 (λ j. 0) (omega arith) (u.zero 1))
