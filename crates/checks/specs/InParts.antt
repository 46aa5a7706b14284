-- Demands as difference constraints in parts: those of ticks scaled by P, and those whose constants are in parts already.
use Rattle.std.specs.Prelude.{◌≡◌, refl, ◌↔◌, ℕ, ◌+◌, ◌<◌}
use Rattle.std.proofs.Common.{ap, arith}
use mathlib.Core.List.Memᴰ
use mathlib.Core.List.{List, [], ◌∷◌, map, Memᴰ}
use Rattle.runs.specs.declared.Demand.{Demand}
use Rattle.runs.specs.DemandRange.{Proper}
use Rattle.runs.specs.Tools.{Every, every_map}
use Rattle.runs.specs.Satisfies.{Satisfies}
use Rattle.runs.specs.Parts.{bit, gain, loss, holds_parts}
use Rattle.sides.specs.Scaled.{scale_demand}
use Rattle.paths.specs.Constraint.{Constraint, constraint, Holds, All, Fits}

-- a demand in P parts to a tick
abbrev pub in_parts : ℕ → Demand → Constraint
in_parts P d = constraint d.from d.to (gain P d) (loss P d)

abbrev pub all_in_parts : ℕ → List Demand → List Constraint
all_in_parts P ds = map (in_parts P) ds

-- a demand whose constants are in parts
abbrev pub edge : Demand → Constraint
edge d = constraint d.from d.to (d.down + bit d.strict) d.up

abbrev pub edges : List Demand → List Constraint
edges ds = map edge ds

-- Demands scaled by P are, constraint by constraint, those in P parts.
pub edges_scaled : (P : ℕ) (ds : List Demand) → edges (map (scale_demand P) ds) ≡ all_in_parts P ds
edges_scaled P [] = refl
edges_scaled P (d ∷ ds) = ap (λ cs. in_parts P d ∷ cs) (edges_scaled P ds)

-- Times satisfy the demands if and only if they solve the constraints.
pub satisfies_parts : (P : ℕ) (x : ℕ → ℕ) (ds : List Demand) → Satisfies P x ds ↔ All (all_in_parts P ds) x
satisfies_parts P x ds = (
  (λ h. parts.1 (λ d m. (holds_parts P x d).0 (h d m))),
  λ h d m. (holds_parts P x d).1 (parts.0 h d m),
)
  where
    parts : All (all_in_parts P ds) x ↔ Every (λ d. Holds (in_parts P d) x) ds
    parts = every_map (λ c. Holds c x) (in_parts P) ds

-- The vertices of proper demands are below M + 1.
pub parts_fit : (P M : ℕ) (ds : List Demand) → Every (Proper M) ds → Fits (M + 1) (all_in_parts P ds)
parts_fit P M ds h =
    record {
      from = λ c m. from c (Memᴰ.of_map (in_parts P) ds m);
      to = λ c m. to c (Memᴰ.of_map (in_parts P) ds m);
    }
  where
    from : (c : Constraint) → (d : Demand) × Memᴰ d ds × (in_parts P d ≡ c) → c.from < M + 1
    from c d = omega (arith, ap (λ b. b.from) d.2, (h d.0 d.1).from)

    to : (c : Constraint) → (d : Demand) × Memᴰ d ds × (in_parts P d ≡ c) → c.to < M + 1
    to c d = omega (arith, ap (λ b. b.to) d.2, (h d.0 d.1).to)
