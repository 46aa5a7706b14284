-- The answer decides whether a run exists.
use Rattle.std.specs.Prelude.{List, ℕ, take}
use Rattle.std.proofs.Common.{arith}
use Rattle.table.specs.Step.{Step}
use Rattle.runs.specs.Demand.{Starts, Exists}
use Rattle.runs.specs.Refutes.{loop_refutes}
use Rattle.plan.specs.Answer.{Rooms, moments_in, starts_in, Planning, Refuted}
use Rattle.plan.specs.Asked.{Asked, asked_places}

-- Where a plan is found, a run exists.
pub found_exists : (n : ℕ) (σ : List Step) (D : Starts) (r r' : Rooms) (P : ℕ) → Planning n σ D r r' P → Exists n D σ
found_exists n σ D r r' P f =
    record {
      parts = P;
      positive = omega (arith, f.parts);
      moments = moments_in r'.times;
      starts = starts_in r'.starts;
      allowed = f.planned.allowed;
      run = f.planned.run;
    }

-- Where a loop is found, none exists.
pub refuted_none : (n : ℕ) (σ : List Step) (D : Starts) (r r' : Rooms) (m : ℕ) → Asked n σ D → Refuted n σ D r r' m
    → Exists n D σ → ⊥
refuted_none n σ D r r' m a f = loop_refutes n σ D (take m r'.loop) a.clocks (asked_places n σ D a) f.loop
