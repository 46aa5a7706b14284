-- Times that satisfy the demands of guards, and those of the starts.
use Rattle.std.specs.Prelude.{◌≡◌, ◌↔◌, true}
use Rattle.std.proofs.Math.Bool.{false}
use mathlib.Core.List.{List, [], ◌∷◌, ◌++◌, map}
use Prim.Native.Nat.{ℕ, zero, suc, ◌+◌, ◌*◌, ◌≤◌, ◌<◌}
use Rattle.std.proofs.Common.{arith}
use Rattle.std.proofs.Math.Decide.{ℕ_discrete}
use Rattle.table.specs.Step.{up_of, down_of, end_of}
use Rattle.table.specs.declared.Guard.{Guard}
use Rattle.table.specs.declared.Relation.{Relation}
use Rattle.table.specs.declared.Relation.TheVariants.{Under, AtMost, Exactly, AtLeast, Over}
use Rattle.runs.specs.declared.Demand.{Demand}
use Rattle.runs.specs.Demand.{Holds, bounded, plus, guard_demands, demands_at, guards_demands}
use Rattle.runs.specs.Demand.{Starts, moved, start_demands}
use Rattle.runs.specs.Tools.{Every, every_nil, every_cons, every_append, every_map}
use Rattle.runs.specs.Steps.{Met, MetBy}

-- all demands of a list hold of the times x, in P parts to a tick
abbrev pub Satisfies : ℕ → (ℕ → ℕ) → List Demand → Type 0
Satisfies P x ds = Every (Holds P x) ds

module _ (P : ℕ) (x : ℕ → ℕ) where
  -- ---- guards
  only : {A : Type 0} (e : Demand) → (A → Holds P x e) → (Holds P x e → A) → A ↔ Satisfies P x (e ∷ [])
  only e f g = (
    (λ a. (every_cons (Holds P x) e []).1 (f a, every_nil (Holds P x))),
    λ h. g ((every_cons (Holds P x) e []).0 h).0,
  )

  -- the demands of a guard say that it is met
  guard_satisfies : (r : Relation) (u d z e : ℕ) → Met r (u * P) (x z) (x e + d * P) ↔ Satisfies P x (guard_demands r u d z e)
  guard_satisfies Under u d z e = only (bounded z e u d true) (λ m. omega arith) (λ h. omega arith)
  guard_satisfies AtMost u d z e = only (bounded z e u d false) (λ m. omega arith) (λ h. omega arith)
  guard_satisfies Exactly u d z e = (
    (λ m. pair.1 (omega arith, least.0 (omega arith))),
    λ h. omega (arith, (pair.0 h).0, least.1 (pair.0 h).1),
  )
    where
      pair : Satisfies P x (bounded z e u d false ∷ bounded e z d u false ∷ [])
          ↔ (Holds P x (bounded z e u d false) × Satisfies P x (bounded e z d u false ∷ []))
      pair = every_cons (Holds P x) (bounded z e u d false) (bounded e z d u false ∷ [])

      least : Holds P x (bounded e z d u false) ↔ Satisfies P x (bounded e z d u false ∷ [])
      least = only (bounded e z d u false) (λ h. h) (λ h. h)
  guard_satisfies AtLeast u d z e = only (bounded e z d u false) (λ m. omega arith) (λ h. omega arith)
  guard_satisfies Over u d z e = only (bounded e z d u true) (λ m. omega arith) (λ h. omega arith)

  -- a guard is met at moment i, z j being the moment of clock j's last reset
  abbrev pub MetAt : ℕ → (ℕ → ℕ) → Guard → Type 0
  MetAt i z g = Met g.relation (up_of g * P) (x (z g.clock)) (x (end_of g.second i z) + down_of g * P)

  -- the demands of the guards of a step say that all of them are met
  pub guards_satisfies : (gs : List Guard) (i : ℕ) (z : ℕ → ℕ)
      → Every (MetAt i z) gs ↔ Satisfies P x (guards_demands gs i z)
  unfolding guards_demands
  guards_satisfies [] i z = ((λ h. every_nil (Holds P x)), λ h. every_nil (MetAt i z))
  guards_satisfies (g ∷ gs) i z = go (guards_satisfies gs i z)
    where
      ds : List Demand
      ds = demands_at g i z

      one : MetAt i z g ↔ Satisfies P x ds
      one = guard_satisfies g.relation (up_of g) (down_of g) (z g.clock) (end_of g.second i z)

      met : Every (MetAt i z) (g ∷ gs) ↔ (MetAt i z g × Every (MetAt i z) gs)
      met = every_cons (MetAt i z) g gs

      both : Satisfies P x (ds ++ guards_demands gs i z) ↔ (Satisfies P x ds × Satisfies P x (guards_demands gs i z))
      both = every_append (Holds P x) ds (guards_demands gs i z)

      go : (Every (MetAt i z) gs ↔ Satisfies P x (guards_demands gs i z))
          → Every (MetAt i z) (g ∷ gs) ↔ Satisfies P x (ds ++ guards_demands gs i z)
      go k = (
        (λ h. both.1 (one.0 (met.0 h).0, k.0 (met.0 h).1)),
        λ h. met.1 (one.1 (both.0 h).0, k.1 (both.0 h).1),
      )

  -- ---- starts
  -- clock j's last reset before the start is not after the start, and the demands listed with it hold
  abbrev pub StartHolds : ℕ → Starts → ℕ → Type 0
  StartHolds K D j = (x (K + j) ≤ x 0) × Every (λ d. Holds P x (moved K d)) (D j)

  -- the demands of n clocks from clock j on
  pub start_satisfies : (K : ℕ) (D : Starts) (j n : ℕ)
      → ((a : ℕ) → j ≤ a → a < j + n → StartHolds K D a) ↔ Satisfies P x (start_demands K D j n)
  unfolding start_demands
  start_satisfies K D j zero = ((λ h. every_nil (Holds P x)), λ h a l u. absurd (omega arith))
  start_satisfies K D j (suc n) = go (start_satisfies K D (suc j) n)
    where
      first : Demand
      first = plus 0 (K + j) 0 false

      rest : List Demand
      rest = start_demands K D (suc j) n

      one : Satisfies P x (first ∷ (map (moved K) (D j) ++ rest))
          ↔ (Holds P x first × Satisfies P x (map (moved K) (D j) ++ rest))
      one = every_cons (Holds P x) first (map (moved K) (D j) ++ rest)

      two : Satisfies P x (map (moved K) (D j) ++ rest) ↔ (Satisfies P x (map (moved K) (D j)) × Satisfies P x rest)
      two = every_append (Holds P x) (map (moved K) (D j)) rest

      here : Satisfies P x (map (moved K) (D j)) ↔ Every (λ d. Holds P x (moved K d)) (D j)
      here = every_map (Holds P x) (moved K) (D j)

      go : (((a : ℕ) → suc j ≤ a → a < suc j + n → StartHolds K D a) ↔ Satisfies P x rest)
          → ((a : ℕ) → j ≤ a → a < j + suc n → StartHolds K D a) ↔ Satisfies P x (first ∷ (map (moved K) (D j) ++ rest))
      go k = (there, back)
        where
          there : ((a : ℕ) → j ≤ a → a < j + suc n → StartHolds K D a)
              → Satisfies P x (first ∷ (map (moved K) (D j) ++ rest))
          there h =
              let h0 : StartHolds K D j = h j (omega arith) (omega arith) in
              one.1 (omega arith, two.1 (here.1 h0.1, k.0 (λ a l u. h a (omega arith) (omega arith))))

          back : Satisfies P x (first ∷ (map (moved K) (D j) ++ rest))
              → (a : ℕ) → j ≤ a → a < j + suc n → StartHolds K D a
          back h a l u = pick (ℕ_discrete a j)
            where
              pick : Dec (a ≡ j) → StartHolds K D a
              pick (yes e) = rw e (omega (arith, (one.0 h).0), here.0 (two.0 (one.0 h).1).0)
              pick (no e) = k.1 (two.0 (one.0 h).1).1 a (omega arith) (omega arith)
