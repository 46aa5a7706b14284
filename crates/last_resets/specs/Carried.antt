-- The row of distances as the program makes it: the numbers of a round carried on from step to step.
use Rattle.std.specs.Prelude.{◌≡◌, Bool, false, List, [], ◌∷◌, length, get_or, set, replicate}
use Rattle.std.proofs.Math.Path.{refl, ap}
use Rattle.std.proofs.Common.{sym, ◌∙◌, add-one, mod-eq_of_lt, get_or-drop, get_or-take}
use Prim.Native.Nat.{ℕ, zero, suc, ◌+◌, ◌*◌, ◌-◌, ◌/◌, ◌%◌, ◌≤◌, ◌<◌}
use native.Mathlib.Omega.{arith}
use Rattle.std.proofs.Math.Decide.{dec_lt}
use Rattle.std.proofs.Math.Nat.{mul-add-mod_self_right}
use Rattle.std.proofs.Math.ListN.{length-set, get_or-eq_default}
use Rattle.std.proofs.lemmas.List.{get_or-replicate}
use Rattle.std.proofs.Math.Seq.{get_or-set_other}
use Rattle.table.specs.Step.{step_at, resets, Good}
use Rattle.table.specs.declared.Table.{Table}
use Rattle.basics.specs.Tab.{is_tab, tab_more}
use Rattle.last_resets.specs.Since.{step_of, one_more, since, since_suc, since_zero, more_few}
use Rattle.last_resets.specs.Distance.{distance_at, distances_of, distance_in, distance_out}

-- the row when n numbers from place `from` on were carried on, one step more, to the places from `to` on
unfoldable pub carried : List Bool → ℕ → ℕ → List ℕ → ℕ → List ℕ
carried flags from to row zero = row
carried flags from to row (suc n) =
    set (carried flags from to row n) (to + n)
    (one_more (get_or flags (from + n) false) (get_or (carried flags from to row n) (from + n) 0))

-- no number is above b
abbrev Few : ℕ → List ℕ → Type 0
Few b row = (k : ℕ) → get_or row k 0 ≤ b

-- a row for sixteen steps and seven clocks, whose numbers are at most b
pub record Small (b : ℕ) (row : List ℕ) : Type 0 where
  pub size : length row ≡ 112
  pub few : (k : ℕ) → get_or row k 0 ≤ b

pub small_up : (a b : ℕ) (row : List ℕ) → a ≤ b → Small a row → Small b row
small_up a b row l s = record { size = s.size; few = λ k. omega (arith, s.few k) }

set_few : (b : ℕ) (l : List ℕ) (i v : ℕ) → v ≤ b → Few b l → Few b (set l i v)
set_few b [] i v p f k = f k
set_few b (x ∷ l) zero v p f zero = p
set_few b (x ∷ l) zero v p f (suc k) = f (suc k)
set_few b (x ∷ l) (suc i) v p f zero = f zero
set_few b (x ∷ l) (suc i) v p f (suc k) = set_few b l i v p (λ n. f (suc n)) k

module _ (flags : List Bool) (from to : ℕ) (row : List ℕ) where
  pub carried_zero : carried flags from to row 0 ≡ row
  unfolding carried
  carried_zero = refl

  -- one number more
  pub carried_more : (n : ℕ) (out : List ℕ) (v : ℕ) → out ≡ carried flags from to row n
      → v ≡ one_more (get_or flags (from + n) false) (get_or out (from + n) 0)
      → set out (to + n) v ≡ carried flags from to row (n + 1)
  unfolding carried
  carried_more n out v e f = rw (add-one, f, e)

  length_carried : (n : ℕ) → length (carried flags from to row n) ≡ length row
  unfolding carried
  length_carried zero = refl
  length_carried (suc n) = length-set (carried flags from to row n) (to + n) _ ∙ length_carried n

  -- the places after are kept
  carried_after : (n k : ℕ) → to + n ≤ k → get_or (carried flags from to row n) k 0 ≡ get_or row k 0
  unfolding carried
  carried_after zero k l = refl
  carried_after (suc n) k l =
      get_or-set_other (carried flags from to row n) (to + n) k _ 0 (omega arith) ∙ carried_after n k (omega arith)

  -- with each number carried on the largest one grows by 1 at most
  carried_few : (b n : ℕ) → Few b row → Few (b + n) (carried flags from to row n)
  unfolding carried
  carried_few b zero f k = omega (arith, f k)
  carried_few b (suc n) f k =
      set_few (b + suc n) (carried flags from to row n) (to + n) _
      (let h = more_few (get_or flags (from + n) false) _ (b + n) (carried_few b n f (from + n)) in omega arith)
      (λ m. omega (arith, carried_few b n f m))
      k

  pub carried_small : (b n : ℕ) (out : List ℕ) → out ≡ carried flags from to row n → Small b row → Small (b + n) out
  carried_small b n out e s =
      rw e (record { size = length_carried n ∙ s.size; few = carried_few b n s.few })

-- ---- the numbers of a table
-- what step s resets
flag_at : (t : Table) (s j : ℕ) → j < 7 → resets (step_at t s) j ≡ get_or t.resets (7 * s + j) false
unfolding step_at
flag_at t s j l =
    get_or-drop (7 * s) _ j false ∙ get_or-take (7 * s + 7) t.resets (7 * s + j) false (omega arith)

-- the number of place k of the row in round r
unfoldable cell_of : Table → ℕ → ℕ → ℕ
cell_of t r k = since t (r * t.steps + k / 7) (k % 7)

module _ (t : Table) (r : ℕ) where
  cell_flag : (k : ℕ) → k < 7 * t.steps → resets (step_of t (r * t.steps + k / 7)) (k % 7) ≡ get_or t.resets k false
  cell_flag k l =
      let s : k / 7 < t.steps = omega arith in
      let e : (r * t.steps + k / 7) % t.steps ≡ k / 7 = mul-add-mod_self_right r t.steps (k / 7) ∙ mod-eq_of_lt s in
      ap (λ n. resets (step_at t n) (k % 7)) e
      ∙ flag_at t (k / 7) (k % 7) (omega arith)
      ∙ ap (λ n. get_or t.resets n false) (omega arith)

  -- one step on is seven places on
  cell_more : (k : ℕ) → k < 7 * t.steps → cell_of t r (7 + k) ≡ one_more (get_or t.resets k false) (cell_of t r k)
  unfolding cell_of
  cell_more k l =
      let p : r * t.steps + (7 + k) / 7 ≡ suc (r * t.steps + k / 7) = omega arith in
      let q : (7 + k) % 7 ≡ k % 7 = omega arith in
      ap (λ n. since t n ((7 + k) % 7)) p
      ∙ ap (since t (suc (r * t.steps + k / 7))) q
      ∙ since_suc t (r * t.steps + k / 7) (k % 7)
      ∙ ap (λ b. one_more b (since t (r * t.steps + k / 7) (k % 7))) (cell_flag k l)

  cell_round : (k : ℕ) → k < 7 → cell_of t (suc r) k ≡ cell_of t r (7 * t.steps + k)
  unfolding cell_of
  cell_round k l =
      let p : suc r * t.steps + k / 7 ≡ r * t.steps + (7 * t.steps + k) / 7 = omega arith in
      let q : k % 7 ≡ (7 * t.steps + k) % 7 = omega arith in
      ap (λ n. since t n (k % 7)) p ∙ ap (since t (r * t.steps + (7 * t.steps + k) / 7)) q

  -- the row's first n numbers are those of round r
  abbrev Filled : ℕ → List ℕ → Type 0
  Filled n row = (k : ℕ) → k < n → get_or row k 0 ≡ cell_of t r k

-- from the first step of a round to all its steps
filled_round : (t : Table) (r : ℕ) (row : List ℕ) → 7 * t.steps ≤ length row → Filled t r 7 row
    → (n : ℕ) → 7 + n ≤ 7 * t.steps → Filled t r (7 + n) (carried t.resets 0 7 row n)
unfolding carried
filled_round t r row b f zero l = f
filled_round t r row b f (suc n) l =
    let h : Filled t r (7 + n) (carried t.resets 0 7 row n) = filled_round t r row b f n (omega arith) in
    let e : 0 + n ≡ n = omega arith in
    let g : 7 + suc n ≡ 7 + n + 1 = omega arith in
    rw g (tab_more (cell_of t r) (carried t.resets 0 7 row n) (7 + n) _
    (omega (arith, length_carried t.resets 0 7 row n))
    (ap (λ k. one_more (get_or t.resets k false) (get_or (carried t.resets 0 7 row n) k 0)) e
    ∙ ap (one_more (get_or t.resets n false)) (h n (omega arith))
    ∙ sym (cell_more t r n (omega arith)))
    h)

-- from the last step of a round to the first of the next
filled_next : (t : Table) (r : ℕ) (row : List ℕ) → 0 < t.steps → 7 * t.steps ≤ length row → Filled t r (7 * t.steps) row
    → (n : ℕ) → n ≤ 7 → Filled t (suc r) n (carried t.resets (7 * t.steps - 7) 0 row n)
unfolding carried
filled_next t r row some b f zero l = λ k q. absurd (omega arith)
filled_next t r row some b f (suc n) l =
    let w = 7 * t.steps - 7 in
    let h : Filled t (suc r) n (carried t.resets w 0 row n) = filled_next t r row some b f n (omega arith) in
    let e : 0 + n ≡ n = omega arith in
    let g : 7 + (w + n) ≡ 7 * t.steps + n = omega arith in
    rw (e, ← add-one n)
    (tab_more (cell_of t (suc r)) (carried t.resets w 0 row n) n _
    (omega (arith, length_carried t.resets w 0 row n))
    (ap (one_more (get_or t.resets (w + n) false))
    (carried_after t.resets w 0 row n (w + n) (omega arith) ∙ f (w + n) (omega arith))
    ∙ sym (cell_more t r (w + n) (omega arith))
    ∙ ap (cell_of t r) g
    ∙ sym (cell_round t r n (omega arith)))
    h)

-- the row before the first step
abbrev pub zeros : List ℕ
zeros = replicate 112 0

zeros_few : Few 0 zeros
zeros_few k = go (dec_lt k 112)
  where
    go : Dec (k < 112) → get_or zeros k 0 ≤ 0
    go (yes l) = let e : get_or zeros k 0 ≡ 0 = get_or-replicate 112 k 0 0 l in omega arith
    go (no l) =
        let o : length zeros ≤ k = omega arith in
        omega (arith, get_or-eq_default zeros 0 o)

pub zeros_small : Small 0 zeros
zeros_small = record { size = refl; few = zeros_few }

zeros_filled : (t : Table) → Filled t 0 7 zeros
unfolding cell_of
zeros_filled t k l =
    let e : 0 * t.steps + k / 7 ≡ 0 = omega arith in
    get_or-replicate 112 k 0 0 (omega arith) ∙ sym (ap (λ n. since t n (k % 7)) e ∙ since_zero t (k % 7))

-- A row whose numbers are those of the second round, and 0 after them, is the row of distances.
is_distances : (t : Table) (row : List ℕ) → length row ≡ 112 → Filled t 1 (7 * t.steps) row
    → ((k : ℕ) → k < 112 → 7 * t.steps ≤ k → get_or row k 0 ≡ 0) → row ≡ distances_of t
unfolding cell_of distances_of
is_distances t row size f out = is_tab 112 (distance_at t) row size (λ k b. go k b (dec_lt k (7 * t.steps)))
  where
    go : (k : ℕ) → k < 112 → Dec (k < 7 * t.steps) → get_or row k 0 ≡ distance_at t k
    go k b (yes l) =
        let e : 1 * t.steps + k / 7 ≡ t.steps + k / 7 = omega arith in
        f k l ∙ ap (λ n. since t n (k % 7)) e ∙ sym (distance_in t k l)
    go k b (no l) = let o : 7 * t.steps ≤ k = omega arith in out k b o ∙ sym (distance_out t k o)

-- The row carried on over a round, to the next one, and over that.
module _ (t : Table) (good : Good t) where
  -- the place of the last step
  abbrev w : ℕ
  w = 7 * t.steps - 7

  abbrev first : List ℕ
  first = carried t.resets 0 7 zeros w

  abbrev next : List ℕ
  next = carried t.resets w 0 first 7

  abbrev second : List ℕ
  second = carried t.resets 0 7 next w

  all : 7 + w ≡ 7 * t.steps
  all = omega (arith, good.steps_some)

  size_first : length first ≡ 112
  size_first = length_carried t.resets 0 7 zeros w

  size_next : length next ≡ 112
  size_next = length_carried t.resets w 0 first 7 ∙ size_first

  first_filled : Filled t 0 (7 * t.steps) first
  first_filled =
      rw all at (filled_round t 0 zeros (omega (arith, good.steps_few)) (zeros_filled t) w (omega (arith, all)))

  next_filled : Filled t 1 7 next
  next_filled =
      filled_next t 0 first good.steps_some (omega (arith, size_first, good.steps_few)) first_filled 7 (omega arith)

  second_filled : Filled t 1 (7 * t.steps) second
  second_filled =
      rw all at (filled_round t 1 next (omega (arith, size_next, good.steps_few)) next_filled w (omega (arith, all)))

  -- the places after the last step are kept
  second_out : (k : ℕ) → k < 112 → 7 * t.steps ≤ k → get_or second k 0 ≡ 0
  second_out k b l =
      carried_after t.resets 0 7 next w k (omega (arith, all))
      ∙ carried_after t.resets w 0 first 7 k (omega (arith, all))
      ∙ carried_after t.resets 0 7 zeros w k (omega (arith, all))
      ∙ get_or-replicate 112 k 0 0 b

  second_is : second ≡ distances_of t
  second_is =
      is_distances t second (length_carried t.resets 0 7 next w ∙ size_next) second_filled second_out

  -- after two rounds these are the distances
  pub two_rounds : (a b c : List ℕ)
      → a ≡ carried t.resets 0 7 zeros w → b ≡ carried t.resets w 0 a 7 → c ≡ carried t.resets 0 7 b w
      → c ≡ distances_of t
  two_rounds a b c f g h =
      h
      ∙ ap (λ l. carried t.resets 0 7 l w) (g ∙ ap (λ l. carried t.resets w 0 l 7) f)
      ∙ second_is

-- and so from the resets and the steps of a table
pub table_rounds : (t : Table) (good : Good t) (flags : List Bool) (steps : ℕ) → t.resets ≡ flags → t.steps ≡ steps
    → (row : List ℕ) → row ≡ zeros → (a b c : List ℕ)
    → a ≡ carried flags 0 7 row (7 * steps - 7) → b ≡ carried flags (7 * steps - 7) 0 a 7 → c ≡ carried flags 0 7 b (7 * steps - 7)
    → c ≡ distances_of t
table_rounds t good flags steps e f row z a b c x y w =
    two_rounds t good a b c (x ∙ rw (z, ← e, ← f) refl) (y ∙ rw (← e, ← f) refl) (w ∙ rw (← e, ← f) refl)
