-- The steps of a table by value, by number.
use Rattle.std.specs.Prelude.{◌≡◌, refl, ℕ, zero, suc, ◌+◌, ◌-◌, ◌≤◌, ◌<◌, length, get_or, take}
use Rattle.std.proofs.Common.{ap, subst, ◌∙◌, arith, get_or-drop, get_or-take}
use mathlib.Core.List.{List, [], ◌∷◌, Memᴰ}
use Rattle.std.proofs.Math.Seq.{slice, length-slice}
use Rattle.table.specs.declared.Guard.{Guard}
use Rattle.table.specs.declared.Table.{Table}
use Rattle.table.specs.Step.{Step, Fair, FairGuard, step_at, steps_from, steps_of, Good}

-- what stands at a place of a list is a member of it
pub member_at : {A : Type 0} (l : List A) (i : ℕ) (d : A) → i < length l → Memᴰ (get_or l i d) l
member_at [] i d b = absurd (omega arith)
member_at (x ∷ l) zero d b = Memᴰ.head refl
member_at (x ∷ l) (suc i) d b = Memᴰ.tail (member_at l i d (omega arith))

pub length_steps_from : (t : Table) (i n : ℕ) → length (steps_from t i n) ≡ n
unfolding steps_from
length_steps_from t i zero = refl
length_steps_from t i (suc n) = ap suc (length_steps_from t (suc i) n)

steps_from_at : (t : Table) (i n j : ℕ) (d : Step) → j < n → get_or (steps_from t i n) j d ≡ step_at t (i + j)
unfolding steps_from
steps_from_at t i zero j d l = absurd (omega arith)
steps_from_at t i (suc n) zero d l = ap (step_at t) (omega arith)
steps_from_at t i (suc n) (suc j) d l = steps_from_at t (suc i) n j d (omega arith) ∙ ap (step_at t) (omega arith)

-- a table has as many steps as it says
pub length_steps : (t : Table) → length (steps_of t) ≡ t.steps
unfolding steps_of
length_steps t = length_steps_from t 0 t.steps

-- step j of the list
pub steps_at : (t : Table) (j : ℕ) (d : Step) → j < t.steps → get_or (steps_of t) j d ≡ step_at t j
unfolding steps_of
steps_at t j d l = steps_from_at t 0 t.steps j d l ∙ ap (step_at t) (omega arith)

pub step_member : (t : Table) (s : ℕ) → s < t.steps → Memᴰ (step_at t s) (steps_of t)
step_member t s l =
    let b : s < length (steps_of t) = rw (length_steps t) l in
    subst (λ x. Memᴰ x (steps_of t)) (steps_at t s (step_at t 0) l) (member_at (steps_of t) s (step_at t 0) b)

pub guard_member : (t : Table) (s g : ℕ) (d : Guard) → get_or t.ends s 0 ≤ g → g < get_or t.ends (s + 1) 0
    → get_or t.ends (s + 1) 0 ≤ length t.guards → Memᴰ (get_or t.guards g d) (step_at t s).guards
unfolding step_at
guard_member t s g d a b n =
    let i = g - get_or t.ends s 0 in
    let e : get_or t.ends s 0 + i ≡ g = omega arith in
    let l : i < length (slice (get_or t.ends s 0) (get_or t.ends (s + 1) 0) t.guards) =
    rw (length-slice (get_or t.ends s 0) (get_or t.ends (s + 1) 0) t.guards n) (omega arith) in
    subst (λ x. Memᴰ x (slice (get_or t.ends s 0) (get_or t.ends (s + 1) 0) t.guards))
    (get_or-drop (get_or t.ends s 0) _ i d
    ∙ ap (λ j. get_or (take (get_or t.ends (s + 1) 0) t.guards) j d) e
    ∙ get_or-take (get_or t.ends (s + 1) 0) t.guards g d b)
    (member_at (slice (get_or t.ends s 0) (get_or t.ends (s + 1) 0) t.guards) i d l)

-- Step s of an accepted table is fair,
pub step_fair : (t : Table) → Good t → (s : ℕ) → s < t.steps → Fair (step_at t s)
step_fair t good s l = good.fair (step_at t s) (step_member t s l)

-- and so is a guard of it, at place g of the table.
pub guard_fair : (t : Table) (s g : ℕ) (d : Guard) → Good t → s < t.steps
    → get_or t.ends s 0 ≤ g → g < get_or t.ends (s + 1) 0 → FairGuard (get_or t.guards g d)
guard_fair t s g d good l a b =
    (step_fair t good s l).guards (get_or t.guards g d)
    (guard_member t s g d a b (omega (arith, good.guards_size, good.room (s + 1) (omega arith))))
