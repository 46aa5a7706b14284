-- The demands of a guard, and of the starts, written one after the other.
use Rattle.std.specs.Prelude.{◌≡◌, refl, Bool, true, false, cond, List, [], ◌∷◌, ◌++◌, map, ℕ, suc, ◌+◌, ◌-◌, ◌≤◌, ◌<◌, ℤ}
use Rattle.std.proofs.Common.{sym, ◌∙◌, ap, add-one, arith}
use Rattle.table.specs.Step.{up_of, down_of}
use Rattle.table.specs.declared.Guard.{Guard}
use Rattle.table.specs.declared.Relation.{Relation}
use Rattle.table.specs.declared.Relation.TheVariants.{Under, AtMost, Exactly, AtLeast, Over}
use Rattle.runs.specs.declared.Demand.{Demand}
use Rattle.runs.specs.Demand.{plus, guard_demands, Starts, moved, start_demands}
use Rattle.runs.specs.DemandOrder.{start_demands_zero, start_demands_suc}
use Rattle.constraints.specs.Pieces.{guard_demand, twice_of}
use Rattle.cells.specs.Writing.{Fits, Wrote, Left, left_all, fits_front, left_next, left_done, left_as}

-- ---- a guard: its first demand, and the second where it has two
-- the demands of a guard, when its clock was last reset at moment z and is compared with moment i
abbrev pub demands_at : Guard → ℕ → ℕ → List Demand
demands_at g z i = guard_demands g.relation (up_of g) (down_of g) z i

abbrev seconds : Relation → ℕ → ℕ → ℕ → ℕ → List Demand
seconds r c d z i = cond (twice_of r) (guard_demand r c d z i true ∷ []) []

guard_split : (r : Relation) (c d z i : ℕ) → guard_demands r c d z i ≡ (guard_demand r c d z i false ∷ []) ++ seconds r c d z i
guard_split Under c d z i = refl
guard_split AtMost c d z i = refl
guard_split Exactly c d z i = refl
guard_split AtLeast c d z i = refl
guard_split Over c d z i = refl

-- a demand made of what its constant adds and takes off
pub made : (g : Guard) (z i : ℕ) (u d : ℕ) (b : Bool) (a : Demand) → u ≡ up_of g → d ≡ down_of g
    → a ≡ guard_demand g.relation u d z i b → a ≡ guard_demand g.relation (up_of g) (down_of g) z i b
made g z i u d b a e f h = h ∙ ap (λ n. guard_demand g.relation n d z i b) e ∙ ap (λ n. guard_demand g.relation (up_of g) n z i b) f

module _ (g : Guard) (z i : ℕ) {old : List ℤ} {q : ℕ} (f : Fits old q (demands_at g z i)) {a : Demand}
    (e : a ≡ guard_demand g.relation (up_of g) (down_of g) z i false) where
  abbrev others : List Demand
  others = seconds g.relation (up_of g) (down_of g) z i

  first_left : Left old q (demands_at g z i) old q ((a ∷ []) ++ others)
  first_left = left_as (guard_split g.relation (up_of g) (down_of g) z i ∙ ap (λ x. (x ∷ []) ++ others) (sym e)) (left_all f)

  pub first_fits : Fits old q (a ∷ [])
  first_fits = fits_front (a ∷ []) others first_left.fits

  module _ {row : List ℤ} {p : ℕ} (w : Wrote old q (a ∷ []) row p) where
    others_are : (b : Bool) → twice_of g.relation ≡ b
        → Left old q (demands_at g z i) row p (cond b (guard_demand g.relation (up_of g) (down_of g) z i true ∷ []) [])
    others_are b n =
        left_as (ap (λ x. cond x (guard_demand g.relation (up_of g) (down_of g) z i true ∷ []) []) n)
        (left_next (a ∷ []) others first_left w)

    pub guard_once : twice_of g.relation ≡ false → Wrote old q (demands_at g z i) row p
    guard_once n = left_done (others_are false n)

    module _ {b : Demand} (n : twice_of g.relation ≡ true)
        (d : b ≡ guard_demand g.relation (up_of g) (down_of g) z i true) where
      second_left : Left old q (demands_at g z i) row p (b ∷ [])
      second_left = left_as (ap (λ x. x ∷ []) (sym d)) (others_are true n)

      pub second_fits : Fits row p (b ∷ [])
      second_fits = second_left.fits

      pub guard_twice : {row' : List ℤ} {p' : ℕ} → Wrote row p (b ∷ []) row' p' → Wrote old q (demands_at g z i) row' p'
      guard_twice v = left_done (left_next (b ∷ []) [] second_left v)

-- ---- the starts of n clocks, of which those from clock j on are left
module _ (K : ℕ) (D : Starts) (n : ℕ) where
  abbrev pub starts_left : ℕ → List Demand
  starts_left j = start_demands K D j (n + 1 - j)

  pub starts_all : start_demands K D 1 n ≡ starts_left 1
  starts_all = let e : n ≡ n + 1 - 1 = omega arith in ap (start_demands K D 1) e

  pub starts_end : (j : ℕ) → n < j → starts_left j ≡ []
  starts_end j l = let e : n + 1 - j ≡ 0 = omega arith in ap (start_demands K D j) e ∙ start_demands_zero K D j

  -- ---- one clock: its start demand is written, and then its partners
  abbrev partners : ℕ → List Demand
  partners j = map (moved K) (D j)

  one_clock : (j : ℕ) → j ≤ n → starts_left j ≡ (plus 0 (K + j) 0 false ∷ []) ++ (partners j ++ starts_left (j + 1))
  one_clock j l =
      let e : n + 1 - j ≡ suc (n + 1 - (j + 1)) = omega arith in
      rw (e, add-one j) (start_demands_suc K D j (n + 1 - (suc j)))

  module _ {old row : List ℤ} {q p j : ℕ} {ds : List Demand} (l : j ≤ n) (left : Left old q ds row p (starts_left j)) where
    clock_left : Left old q ds row p ((plus 0 (K + j) 0 false ∷ []) ++ (partners j ++ starts_left (j + 1)))
    clock_left = left_as (one_clock j l) left

    pub start_fits : Fits row p (plus 0 (K + j) 0 false ∷ [])
    start_fits = fits_front (plus 0 (K + j) 0 false ∷ []) (partners j ++ starts_left (j + 1)) clock_left.fits

    module _ {row' : List ℤ} {p' : ℕ} (w : Wrote row p (plus 0 (K + j) 0 false ∷ []) row' p') where
      partners_left : Left old q ds row' p' (partners j ++ starts_left (j + 1))
      partners_left = left_next (plus 0 (K + j) 0 false ∷ []) (partners j ++ starts_left (j + 1)) clock_left w

      pub partners_fit : Fits row' p' (map (moved K) (D j))
      partners_fit = fits_front (partners j) (starts_left (j + 1)) partners_left.fits

      pub starts_more : {row'' : List ℤ} {p'' : ℕ} → Wrote row' p' (map (moved K) (D j)) row'' p''
          → Left old q ds row'' p'' (starts_left (j + 1))
      starts_more u = left_next (partners j) (starts_left (j + 1)) partners_left u
