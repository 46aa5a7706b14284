-- What demands are made of: the last resets, the step that follows, and the demands of a guard, one at a time.
use Rattle.std.specs.Prelude.{◌≡◌, Bool, true, false, cond, List, [], ◌∷◌, ℕ, zero, suc, ◌+◌, ◌*◌, eqb, get_or, set}
use Rattle.std.proofs.Common.{ap, eq-eqb, ne_eqb}
use Rattle.table.specs.declared.Relation.{Relation}
use Rattle.table.specs.declared.Relation.TheVariants.{Under, AtMost, Exactly, AtLeast, Over}
use Rattle.runs.specs.declared.Demand.{Demand}
use Rattle.runs.specs.Demand.{bounded}

-- no clock was reset yet: the last reset of clock j is at moment K + j
abbrev pub fresh : ℕ → List ℕ
fresh K = K ∷ (K + 1) ∷ (K + 2) ∷ (K + 3) ∷ (K + 4) ∷ (K + 5) ∷ (K + 6) ∷ []

-- the last resets of clocks below j after step s at moment i, and of the others before it
unfoldable pub reset_to : List Bool → ℕ → ℕ → List ℕ → ℕ → List ℕ
reset_to flags s i z zero = z
reset_to flags s i z (suc j) = set (reset_to flags s i z j) j (cond (get_or flags (7 * s + j) false) i (get_or z j 0))

abbrev pub reset_of : List Bool → ℕ → ℕ → List ℕ → List ℕ
reset_of flags s i z = reset_to flags s i z 7

-- the step after step s, when a round has L steps
abbrev pub following_of : ℕ → ℕ → ℕ
following_of s L = cond (eqb (s + 1) L) 0 (s + 1)

pub following_round : (s L : ℕ) → s + 1 ≡ L → following_of s L ≡ 0
following_round s L e = ap (λ b. cond b 0 (s + 1)) (eq-eqb (s + 1) L e)

pub following_on : (s L : ℕ) → (s + 1 ≡ L → ⊥) → following_of s L ≡ s + 1
following_on s L e = ap (λ b. cond b 0 (s + 1)) (ne_eqb (s + 1) L e)

-- the second demand of a guard where it has two, else its only one
abbrev pub guard_demand : Relation → ℕ → ℕ → ℕ → ℕ → Bool → Demand
guard_demand Under u d z e second = bounded z e u d true
guard_demand AtMost u d z e second = bounded z e u d false
guard_demand Exactly u d z e second = cond second (bounded e z d u false) (bounded z e u d false)
guard_demand AtLeast u d z e second = bounded e z d u false
guard_demand Over u d z e second = bounded e z d u true

-- whether a guard has two demands
abbrev pub twice_of : Relation → Bool
twice_of Under = false
twice_of AtMost = false
twice_of Exactly = true
twice_of AtLeast = false
twice_of Over = false
