-- For each guard of a table, in table order, its constant times the parts to a tick.
use Rattle.std.specs.Prelude.{◌≡◌, refl, cond, List, [], ◌∷◌, map, ℕ, zero, suc, ◌*◌, ◌≤◌, ◌<◌, ltb, length, get_or}
use Rattle.std.proofs.Common.{◌∙◌, mul-le-mul_left, arith, lt-ltb, le-ltb}
use Rattle.std.proofs.Math.Decide.{dec_lt}
use Rattle.table.specs.declared.Guard.{Guard}
use Rattle.table.specs.declared.Table.{Table}
use Rattle.basics.specs.Tab.{tab, length_tab, get_d_tab, is_tab}

-- the largest number of a guard: 4000, in 1031 parts to a tick
abbrev pub most : ℕ
most = 4000 * 1031

pub scaled_most : (c P : ℕ) → c ≤ 4000 → P ≤ 1031 → c * P ≤ most
scaled_most c P h l = omega (arith, mul-le-mul_left c l)

-- how many guards a table has
abbrev pub guards_in : Table → ℕ
guards_in t = get_or t.ends t.steps 0

-- the constant of guard i, from 0
abbrev pub constant_at : Table → ℕ → ℕ
constant_at t i = get_or (map (λ (g : Guard). g.constant) t.guards) i 0

-- the number at place i, and 0 past the last guard
abbrev pub scaled_at : ℕ → Table → ℕ → ℕ
scaled_at P t i = cond (ltb i (guards_in t)) (constant_at t i * P) 0

-- The row. A guard has one number, whether it bounds a reading from above, from below or from both sides.
unfoldable pub scaled_of : ℕ → Table → List ℕ
scaled_of P t = tab (scaled_at P t) 64

-- the constant of a guard that is there
pub constant_at_lem : (gs : List Guard) (i : ℕ) (d : Guard) → i < length gs
    → get_or (map (λ (g : Guard). g.constant) gs) i 0 ≡ (get_or gs i d).constant
constant_at_lem [] i d l = absurd (omega arith)
constant_at_lem (g ∷ gs) zero d l = refl
constant_at_lem (g ∷ gs) (suc i) d l = constant_at_lem gs i d (omega arith)

pub scaled_size : (P : ℕ) (t : Table) → length (scaled_of P t) ≡ 64
unfolding scaled_of
scaled_size P t = length_tab (scaled_at P t) 64

pub scaled_at_lem : (P : ℕ) (t : Table) (i : ℕ) → i < guards_in t → i < 64 → get_or (scaled_of P t) i 0 ≡ constant_at t i * P
unfolding scaled_of
scaled_at_lem P t i l b = get_d_tab (scaled_at P t) 64 i b ∙ rw (lt-ltb i (guards_in t) l)

-- a row with these numbers is this one
pub is_scaled : (P : ℕ) (t : Table) (row : List ℕ) → length row ≡ 64
    → ((i : ℕ) → i < guards_in t → get_or row i 0 ≡ constant_at t i * P)
    → ((i : ℕ) → guards_in t ≤ i → i < 64 → get_or row i 0 ≡ 0) → row ≡ scaled_of P t
unfolding scaled_of
is_scaled P t row e h z = is_tab 64 (scaled_at P t) row e (λ i b. go i b (dec_lt i (guards_in t)))
  where
    go : (i : ℕ) → i < 64 → Dec (i < guards_in t) → get_or row i 0 ≡ scaled_at P t i
    go i b (yes l) = rw (lt-ltb i (guards_in t) l) (h i l)
    go i b (no l) = let n : guards_in t ≤ i = omega arith in rw (le-ltb i (guards_in t) n) (z i n b)
