-- A table whose guards have the constants of a row, in table order; and that of the scaled row.
use Rattle.std.specs.Prelude.{◌≡◌, refl, false, List, [], ◌∷◌, map, ℕ, zero, suc, ◌+◌, ◌*◌, ◌-◌, ◌≤◌, ◌<◌, length, get_or, take, drop}
use Rattle.std.proofs.Math.Path.{ap}
use Rattle.std.proofs.Common.{◌∙◌, arith}
use Rattle.table.specs.Step.{FairGuard, step_at, Good}
use Rattle.table.specs.Steps.{guard_fair}
use Rattle.table.specs.declared.Guard.{Guard}
use Rattle.table.specs.declared.Relation.TheVariants.{Under}
use Rattle.table.specs.declared.Table.{Table}
use Rattle.scaling.specs.Scaled.{most, scaled_most, guards_in, constant_at, constant_at_lem, scaled_of, scaled_at_lem}

-- a guard with another constant
abbrev pub with_constant : ℕ → Guard → Guard
with_constant c g =
    record { clock = g.clock; second = g.second; relation = g.relation; minus = g.minus; constant = c }

-- guards with the constants of a row
unfoldable pub with_constants : List ℕ → List Guard → List Guard
with_constants row [] = []
with_constants [] (g ∷ gs) = with_constant 0 g ∷ with_constants [] gs
with_constants (c ∷ row) (g ∷ gs) = with_constant c g ∷ with_constants row gs

abbrev pub table_with : List ℕ → Table → Table
table_with row t =
    record { clocks = t.clocks; steps = t.steps; guards = with_constants row t.guards; ends = t.ends; resets = t.resets }

-- a guard in P parts to a tick
abbrev pub scale_guard : ℕ → Guard → Guard
scale_guard P g = with_constant (g.constant * P) g

-- the table in P parts to a tick
abbrev pub scaled_table : ℕ → Table → Table
scaled_table P t = table_with (scaled_of P t) t

-- ---- guards with the constants of a row
pub with_length : (row : List ℕ) (gs : List Guard) → length (with_constants row gs) ≡ length gs
unfolding with_constants
with_length row [] = refl
with_length [] (g ∷ gs) = ap suc (with_length [] gs)
with_length (c ∷ row) (g ∷ gs) = ap suc (with_length row gs)

-- the guard at place i has the number at place i
pub with_at : (row : List ℕ) (gs : List Guard) (i : ℕ) (d : Guard) → i < length gs
    → get_or (with_constants row gs) i d ≡ with_constant (get_or row i 0) (get_or gs i d)
unfolding with_constants
with_at row [] i d l = absurd (omega arith)
with_at [] (g ∷ gs) zero d l = refl
with_at [] (g ∷ gs) (suc i) d l = with_at [] gs i d (omega arith)
with_at (c ∷ row) (g ∷ gs) zero d l = refl
with_at (c ∷ row) (g ∷ gs) (suc i) d l = with_at row gs i d (omega arith)

-- the first b guards, when the first b numbers are their constants times P
take_with : (P : ℕ) (row : List ℕ) (gs : List Guard) (b : ℕ)
    → ((i : ℕ) → i < b → get_or row i 0 ≡ get_or (map (λ (g : Guard). g.constant) gs) i 0 * P)
    → take b (with_constants row gs) ≡ map (scale_guard P) (take b gs)
unfolding with_constants
take_with P row gs zero h = refl
take_with P row [] (suc b) h = refl
take_with P [] (g ∷ gs) (suc b) h = λ i.
    with_constant (h 0 (omega arith) i) g ∷ take_with P [] gs b (λ j l. h (suc j) (omega arith)) i
take_with P (c ∷ row) (g ∷ gs) (suc b) h = λ i.
    with_constant (h 0 (omega arith) i) g ∷ take_with P row gs b (λ j l. h (suc j) (omega arith)) i

drop_map : (f : Guard → Guard) (a : ℕ) (gs : List Guard) → drop a (map f gs) ≡ map f (drop a gs)
drop_map f zero gs = refl
drop_map f (suc a) [] = refl
drop_map f (suc a) (g ∷ gs) = drop_map f a gs

-- ---- the table in P parts to a tick
module _ (P : ℕ) (t : Table) (good : Good t) where
  -- n steps before the last end
  ends_few : (n i : ℕ) → i + n ≡ t.steps → get_or t.ends i 0 ≤ guards_in t
  ends_few zero i e = let same : i ≡ t.steps = omega arith in omega (arith, ap (λ k. get_or t.ends k 0) same)
  ends_few (suc n) i e = omega (arith, good.order i (omega arith), ends_few n (i + 1) (omega arith))

  -- a step ends where the guards of the table end, or before
  step_end : (i : ℕ) → i < t.steps → get_or t.ends (i + 1) 0 ≤ guards_in t
  step_end i l = ends_few (t.steps - (i + 1)) (i + 1) (omega arith)

  room : guards_in t ≤ 64
  room = good.room t.steps (omega arith)

  -- each step has its guards in parts
  pub step_scaled : (i : ℕ) → i < t.steps → (step_at (scaled_table P t) i).guards ≡ map (scale_guard P) (step_at t i).guards
  unfolding step_at
  step_scaled i l =
      ap (drop (get_or t.ends i 0))
      (take_with P (scaled_of P t) t.guards (get_or t.ends (i + 1) 0)
      (λ j b. scaled_at_lem P t j (omega (arith, step_end i l)) (omega (arith, step_end i l, room))))
      ∙ drop_map (scale_guard P) (get_or t.ends i 0) (take (get_or t.ends (i + 1) 0) t.guards)

  -- no number of a guard is too large
  pub scaled_small : P ≤ 1031 → (k i : ℕ) → k < t.steps → get_or t.ends k 0 ≤ i → i < get_or t.ends (k + 1) 0
      → get_or (scaled_of P t) i 0 ≤ most
  scaled_small few k i l a b =
      omega (arith, scaled_at_lem P t i (omega (arith, step_end k l)) inside, scaled_most (constant_at t i) P (omega (arith, is, fair.small)) few)
    where
      unread : Guard
      unread = record { clock = 0; second = 0; relation = Under; minus = false; constant = 0 }

      inside : i < 64
      inside = omega (arith, step_end k l, room)

      is : constant_at t i ≡ (get_or t.guards i unread).constant
      is = constant_at_lem t.guards i unread (omega (arith, good.guards_size, inside))

      fair : FairGuard (get_or t.guards i unread)
      fair = guard_fair t k i unread good l a b
