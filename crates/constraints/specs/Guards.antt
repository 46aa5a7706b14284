-- The demands of guards, one guard after the other.
use Rattle.std.specs.Prelude.{◌≡◌, refl, true, false, List, [], ◌∷◌, ◌++◌, ℕ, suc, ◌+◌, ◌≤◌, ◌<◌, length}
use Rattle.std.proofs.Math.Numerals.{add-one}
use Rattle.std.proofs.Common.{arith}
use Rattle.std.proofs.Math.ListN.{get_or}
use Rattle.std.proofs.Math.Seq.{slice, slice_empty, slice-cons}
use Rattle.table.specs.declared.Guard.{Guard}
use Rattle.table.specs.declared.Relation.{Relation}
use Rattle.table.specs.declared.Relation.TheVariants.{Under, AtMost, Exactly, AtLeast, Over}
use Rattle.table.specs.declared.Table.{Table}
use Rattle.runs.specs.Demand.{guard_demands, demands_at}
use Rattle.runs.specs.DemandOrder.{guards_demands_nil, guards_demands_cons}
use Rattle.constraints.specs.Pieces.{guard_demand, twice_of}
use Rattle.constraints.specs.Demands.{guards_from}

-- ---- a guard: the first or only demand, and the second where it has two
pub guard_once : (r : Relation) (u d z e : ℕ) → twice_of r ≡ false → guard_demands r u d z e ≡ guard_demand r u d z e false ∷ []
guard_once Under u d z e p = refl
guard_once AtMost u d z e p = refl
guard_once Exactly u d z e p = let b : ◌≡◌ {A = ℕ} 0 1 = cc in absurd (omega arith)
guard_once AtLeast u d z e p = refl
guard_once Over u d z e p = refl

pub guard_twice : (r : Relation) (u d z e : ℕ) → twice_of r ≡ true
    → guard_demands r u d z e ≡ guard_demand r u d z e false ∷ guard_demand r u d z e true ∷ []
guard_twice Under u d z e p = let b : ◌≡◌ {A = ℕ} 0 1 = cc in absurd (omega arith)
guard_twice AtMost u d z e p = let b : ◌≡◌ {A = ℕ} 0 1 = cc in absurd (omega arith)
guard_twice Exactly u d z e p = refl
guard_twice AtLeast u d z e p = let b : ◌≡◌ {A = ℕ} 0 1 = cc in absurd (omega arith)
guard_twice Over u d z e p = let b : ◌≡◌ {A = ℕ} 0 1 = cc in absurd (omega arith)

-- ---- the guards of step s at moment i: no guard is left
module _ (t : Table) (s i : ℕ) (z : List ℕ) where
  pub guards_end_lem : guards_from t s i z (get_or t.ends (s + 1) 0) ≡ []
  unfolding guards_from
  guards_end_lem = rw slice_empty (guards_demands_nil i (λ j. get_or z j 0))

  -- one guard, then the others
  pub guards_more : (g : ℕ) (d : Guard) → g < get_or t.ends (s + 1) 0 → get_or t.ends (s + 1) 0 ≤ length t.guards
      → guards_from t s i z g ≡ demands_at (get_or t.guards g d) i (λ j. get_or z j 0) ++ guards_from t s i z (g + 1)
  unfolding guards_from
  guards_more g d l b =
      let e : slice g (get_or t.ends (s + 1) 0) t.guards
      ≡ get_or t.guards g d ∷ slice (suc g) (get_or t.ends (s + 1) 0) t.guards =
      slice-cons g (get_or t.ends (s + 1) 0) t.guards d l b in
      rw (e, add-one g) (guards_demands_cons (get_or t.guards g d) _ i (λ j. get_or z j 0))
