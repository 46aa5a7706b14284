-- Readings as differences of times, and the moments of the last resets.
use Rattle.std.specs.Prelude.{◌≡◌, refl, ◌↔◌, Bool, true, false}
use Rattle.std.proofs.Common.{ap, subst₂, sym}
use Prim.Native.Nat.{ℕ, zero, suc, ◌+◌, ◌*◌, ◌-◌, ◌≤◌, ◌<◌}
use native.Mathlib.Omega.{arith}
use Rattle.table.specs.Step.{Step, resets, up_of, down_of, up_plain, down_plain, end_of, Plain}
use Rattle.table.specs.declared.Guard.{Guard}
use Rattle.table.specs.declared.Relation.{Relation}
use Rattle.table.specs.declared.Relation.TheVariants.{Under, AtMost, Exactly, AtLeast, Over}
use Rattle.runs.specs.Run.{Compares, reading, second_reading, Passes, zeroed}
use Rattle.runs.specs.Demand.{OnClocks}
use Rattle.runs.specs.Steps.{Met, MetBy}

-- The time u of a clock's last reset, when the start is at time S: r is its moment, 0 where it lies before the start.
abbrev pub ResetAt : ℕ → (ℕ → ℕ) → ℕ → ℕ → ℕ → Type 0
ResetAt S t s zero u = u + s ≡ S
ResetAt S t s (suc r) u = u ≡ S + t (suc r)

-- a reading is the difference of the times
reading_is : (S : ℕ) (t : ℕ → ℕ) (s r u w i : ℕ) → ResetAt S t s r u → w ≡ S + t i → reading t s r i ≡ w - u
reading_is S t s zero u w i h e = omega arith
reading_is S t s (suc r) u w i h e = omega arith

-- a guard is met by times if and only if it holds of the readings at time w: what is taken off stands on the other side
met_difference : (r : Relation) (c d z e w : ℕ) → z ≤ w → e ≤ w → Met r c z (e + d) ↔ Compares r (w - e + c) (w - z + d)
met_difference Under c d z e w h k = ((λ m. omega arith), λ m. omega arith)
met_difference AtMost c d z e w h k = ((λ m. omega arith), λ m. omega arith)
met_difference Exactly c d z e w h k = ((λ m. omega arith), λ m. omega arith)
met_difference AtLeast c d z e w h k = ((λ m. omega arith), λ m. omega arith)
met_difference Over c d z e w h k = ((λ m. omega arith), λ m. omega arith)

-- u j is the time of clock j's last reset, at moment z j, for clocks 1 to n; and w is the time of moment i, which is not before
pub record ReadAt (n S : ℕ) (t s z u : ℕ → ℕ) (w i : ℕ) : Type 0 where
  pub now : w ≡ S + t i
  pub old : (j : ℕ) → 0 < j → j ≤ n → u j ≤ w
  pub reset : (j : ℕ) → 0 < j → j ≤ n → ResetAt S t (s j) (z j) (u j)

module _ (n S : ℕ) (t s z u : ℕ → ℕ) (w i : ℕ) (k : ReadAt n S t s z u w i) where
  second_is : (j : ℕ) → j ≤ n → second_reading t s z i j ≡ w - end_of j w u
  unfolding second_reading end_of
  second_is zero l = omega arith
  second_is (suc j) l = reading_is S t (s (suc j)) (z (suc j)) (u (suc j)) w i (k.reset (suc j) (omega arith) l) k.now

  end_before : (j : ℕ) → j ≤ n → end_of j w u ≤ w
  unfolding end_of
  end_before zero l = omega arith
  end_before (suc j) l = k.old (suc j) (omega arith) l

  -- a guard holds of the readings if and only if it is met by the times
  pub met_reading : (P : ℕ) (g : Guard) → OnClocks n g → MetBy P g u w ↔ Passes P t s z i g
  met_reading P g h =
      rw (
        reading_is S t (s g.clock) (z g.clock) (u g.clock) w i (k.reset g.clock h.0 h.1) k.now,
        second_is g.second h.2,
      )
      (met_difference g.relation (up_of g * P) (down_of g * P) (u g.clock) (end_of g.second w u) w
      (k.old g.clock h.0 h.1) (end_before g.second h.2))

-- ---- a guard of one clock
second_none : (t s z : ℕ → ℕ) (i j : ℕ) → j ≡ 0 → second_reading t s z i j ≡ 0
unfolding second_reading
second_none t s z i j e = rw e

-- It holds if and only if its clock's reading stands to its constant as its relation says.
pub passes_plain : (P : ℕ) (t s z : ℕ → ℕ) (i : ℕ) (g : Guard) → Plain g
    → Passes P t s z i g ↔ Compares g.relation (g.constant * P) (reading t (s g.clock) (z g.clock) i)
passes_plain P t s z i g h =
    (subst₂ (Compares g.relation) up down, subst₂ (Compares g.relation) (sym up) (sym down))
  where
    up : second_reading t s z i g.second + up_of g * P ≡ g.constant * P
    up = omega (arith, second_none t s z i g.second h.second, ap (λ c. c * P) (up_plain g h.minus))

    down : reading t (s g.clock) (z g.clock) i + down_of g * P ≡ reading t (s g.clock) (z g.clock) i
    down = omega (arith, ap (λ c. c * P) (down_plain g h.minus))

-- ---- the moments of the last resets after a step
pub zeroed_true : (c : Step) (i : ℕ) (z : ℕ → ℕ) (j : ℕ) → resets c j ≡ true → zeroed c i z j ≡ i
unfolding zeroed
zeroed_true c i z j e = rw e

pub zeroed_false : (c : Step) (i : ℕ) (z : ℕ → ℕ) (j : ℕ) → resets c j ≡ false → zeroed c i z j ≡ z j
unfolding zeroed
zeroed_false c i z j e = rw e

-- what holds of the moment of the step, and of the moments of two last resets before it, holds of those after it
pub zeroed_cases : (Q : ℕ → ℕ → Type 0) (c : Step) (i : ℕ) (y z : ℕ → ℕ) (j : ℕ)
    → (resets c j ≡ true → Q i i) → (resets c j ≡ false → Q (y j) (z j)) → Q (zeroed c i y j) (zeroed c i z j)
zeroed_cases Q c i y z j f g = go (resets c j) refl
  where
    go : (b : Bool) → resets c j ≡ b → Q (zeroed c i y j) (zeroed c i z j)
    go true e = rw (zeroed_true c i y j e, zeroed_true c i z j e) (f e)
    go false e = rw (zeroed_false c i y j e, zeroed_false c i z j e) (g e)
