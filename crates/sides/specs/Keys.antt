-- The keys of all steps and clocks on a side, in a row: clock j of step i has place 7 * i + j.
use Rattle.std.specs.Prelude.{◌≡◌, cond, List, ℕ, ◌+◌, ◌*◌, ◌/◌, ◌%◌, ◌≤◌, ◌<◌, ltb, length, get_or}
use Rattle.std.proofs.Common.{ap, ◌∙◌, arith, lt-ltb, le-ltb}
use Rattle.std.proofs.Math.Decide.{dec_lt}
use Rattle.table.specs.Step.{step_at}
use Rattle.table.specs.declared.Table.{Table}
use Rattle.scaling.specs.Scaled.{most}
use Rattle.basics.specs.Tab.{tab, length_tab, get_d_tab, is_tab}
use Rattle.sides.specs.Sides.{Side, none}
use Rattle.sides.specs.Tight.{least, least_none}

-- What is asked of a row of constants: a number for each guard, and none too large.
pub record Numbers (t : Table) (row : List ℕ) : Type 0 where
  pub size : length row ≡ 64
  pub small : (k i : ℕ) → k < t.steps → get_or t.ends k 0 ≤ i → i < get_or t.ends (k + 1) 0 → get_or row i 0 ≤ most

-- the key of step i and clock j, and none after the last step
unfoldable pub key_at : Side → Table → ℕ → ℕ → ℕ
key_at s t i j = cond (ltb i t.steps) (least s j (step_at t i).guards) none

unfoldable pub keys_of : Side → Table → List ℕ
keys_of s t = tab (λ k. key_at s t (k / 7) (k % 7)) 112

pub keys_size : (s : Side) (t : Table) → length (keys_of s t) ≡ 112
unfolding keys_of
keys_size s t = length_tab (λ k. key_at s t (k / 7) (k % 7)) 112

pub key_step : (s : Side) (t : Table) (i j : ℕ) → i < t.steps → key_at s t i j ≡ least s j (step_at t i).guards
unfolding key_at
key_step s t i j l = rw (lt-ltb i t.steps l)

pub key_after : (s : Side) (t : Table) (i j : ℕ) → t.steps ≤ i → key_at s t i j ≡ none
unfolding key_at
key_after s t i j l = rw (le-ltb i t.steps l)

key_small : (s : Side) (t : Table) (i j : ℕ) → key_at s t i j ≤ none
key_small s t i j = go (dec_lt i t.steps)
  where
    go : Dec (i < t.steps) → key_at s t i j ≤ none
    go (yes l) = omega (arith, key_step s t i j l, least_none s j (step_at t i).guards)
    go (no l) = omega (arith, key_after s t i j (omega arith))

pub keys_at : (s : Side) (t : Table) (i j : ℕ) → t.steps ≤ 16 → i < t.steps → j < 7
    → get_or (keys_of s t) (7 * i + j) 0 ≡ least s j (step_at t i).guards
unfolding keys_of
keys_at s t i j few l b =
    let d : (7 * i + j) / 7 ≡ i = omega arith in
    let r : (7 * i + j) % 7 ≡ j = omega arith in
    get_d_tab (λ k. key_at s t (k / 7) (k % 7)) 112 (7 * i + j) (omega arith) ∙ rw (d, r) (key_step s t i j l)

pub keys_small : (s : Side) (t : Table) (k : ℕ) → k < 112 → get_or (keys_of s t) k 0 ≤ none
unfolding keys_of
keys_small s t k l =
    rw (get_d_tab (λ k. key_at s t (k / 7) (k % 7)) 112 k l) (key_small s t (k / 7) (k % 7))

-- a row with these keys is this one
pub is_keys : (s : Side) (t : Table) (row : List ℕ) → length row ≡ 112
    → ((i j : ℕ) → i < 16 → j < 7 → get_or row (7 * i + j) 0 ≡ key_at s t i j) → row ≡ keys_of s t
unfolding keys_of
is_keys s t row e h =
    is_tab 112 (λ k. key_at s t (k / 7) (k % 7)) row e (λ k l.
    let q : k ≡ 7 * (k / 7) + k % 7 = omega arith in
    ap (λ n. get_or row n 0) q ∙ h (k / 7) (k % 7) (omega arith) (omega arith))
