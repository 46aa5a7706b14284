-- The row of distances: how many steps ago the last reset was in rounds without end, and that it serves at every step.
use Rattle.std.specs.Prelude.{◌≡◌, refl, Bool, true, false, cond, List, ℕ, zero, suc, ◌+◌, ◌*◌, ◌-◌, ◌/◌, ◌%◌, ◌≤◌, ◌<◌, eqb, leb, ltb, length, get_or}
use Rattle.std.proofs.Common.{ap, sym, ◌∙◌, arith, mod-lt, div-add-mod', le-leb, lt-ltb, le-ltb, ne_eqb}
use Rattle.std.proofs.Math.Decide.{dec_le, dec_lt}
use Rattle.std.proofs.Math.Nat.{add-mod_left}
use Rattle.std.proofs.lemmas.Bool.{lt-leb}
use Rattle.std.proofs.Math.ListN.{get_or-eq_default}
use Rattle.table.specs.Step.{step_at, resets}
use Rattle.table.specs.declared.Table.{Table}
use Rattle.basics.specs.Tab.{tab, length_tab, get_d_tab}
use Rattle.last_resets.specs.Since.{step_of, one_more, since, last_resets, since_suc, more_some, since_few}
use Rattle.last_resets.specs.Since.{since_zero, last_since}

-- in rounds without end: the steps since the last reset when s steps of the second round are past
abbrev pub distance : Table → ℕ → ℕ → ℕ
distance t s j = since t (t.steps + s) j

-- the steps since the last reset, from the distance d, when i steps are past
abbrev pub reached : ℕ → ℕ → ℕ
reached d i = cond (leb d i) d 0

pub reached_yes : (d i : ℕ) → d ≤ i → reached d i ≡ d
reached_yes d i l = ap (λ b. cond b d 0) (le-leb d i l)

pub reached_no : (d i : ℕ) → i < d → reached d i ≡ 0
reached_no d i l = ap (λ b. cond b d 0) (lt-leb d i l)

-- one step more on both sides
reached_more : (b : Bool) (d i : ℕ) → one_more b (reached d i) ≡ reached (one_more b d) (suc i)
reached_more true d i = sym (reached_yes 1 (suc i) (omega arith))
reached_more false zero i = ap (one_more false) (reached_yes 0 i (omega arith)) ∙ sym (reached_yes 0 (suc i) (omega arith))
reached_more false (suc d) i = go (dec_le (suc d) i)
  where
    go : Dec (suc d ≤ i) → one_more false (reached (suc d) i) ≡ reached (one_more false (suc d)) (suc i)
    go (yes l) =
        ap (one_more false) (reached_yes (suc d) i l)
        ∙ more_some d
        ∙ sym (ap (λ n. reached n (suc i)) (more_some d) ∙ reached_yes (suc (suc d)) (suc i) (omega arith))
    go (no l) =
        ap (one_more false) (reached_no (suc d) i (omega arith))
        ∙ sym (ap (λ n. reached n (suc i)) (more_some d) ∙ reached_no (suc (suc d)) (suc i) (omega arith))

module _ (t : Table) (j : ℕ) where
  -- a round later the same step
  step_again : (i : ℕ) → step_of t (t.steps + i) ≡ step_of t i
  step_again i = ap (step_at t) (add-mod_left t.steps i)

  -- what is so a round later is so now, if it is not too long ago
  since_later : (i : ℕ) → since t i j ≡ reached (since t (t.steps + i) j) i
  since_later zero = since_zero t j ∙ go (dec_le (since t (t.steps + 0) j) 0)
    where
      go : Dec (since t (t.steps + 0) j ≤ 0) → 0 ≡ reached (since t (t.steps + 0) j) 0
      go (yes l) = omega (arith, reached_yes (since t (t.steps + 0) j) 0 l)
      go (no l) = sym (reached_no (since t (t.steps + 0) j) 0 (omega arith))
  since_later (suc i) =
      let e : t.steps + suc i ≡ suc (t.steps + i) = omega arith in
      let q : since t (t.steps + suc i) j ≡ one_more (resets (step_of t i) j) (since t (t.steps + i) j) =
      ap (λ n. since t n j) e
      ∙ since_suc t (t.steps + i) j
      ∙ ap (λ s. one_more (resets s j) (since t (t.steps + i) j)) (step_again i) in
      since_suc t i j
      ∙ ap (one_more (resets (step_of t i) j)) (since_later i)
      ∙ reached_more (resets (step_of t i) j) (since t (t.steps + i) j) i
      ∙ ap (λ n. reached n (suc i)) (sym q)

  -- the step so long ago was a reset
  abbrev Reset : ℕ → ℕ → Type 0
  Reset i n = 0 < n → resets (step_of t (i - n)) j ≡ true

  reset_more : (i : ℕ) (b : Bool) (n : ℕ) → resets (step_of t i) j ≡ b → Reset i n → Reset (suc i) (one_more b n)
  reset_more i true n e h p = let q : suc i - 1 ≡ i = omega arith in rw q e
  reset_more i false zero e h p = absurd (omega arith)
  reset_more i false (suc n) e h p =
      let q : suc i - one_more false (suc n) ≡ i - suc n = omega (arith, more_some n) in
      rw q (h (omega arith))

  since_reset : (i : ℕ) → Reset i (since t i j)
  since_reset zero = λ p. absurd (omega (arith, since_zero t j))
  since_reset (suc i) =
      rw (since_suc t i j) (reset_more i (resets (step_of t i) j) (since t i j) refl (since_reset i))

  -- a reset is again one a round later
  round_more : (i : ℕ) (b : Bool) (n : ℕ) → resets (step_of t i) j ≡ b → Reset i n → n ≤ i → 0 < t.steps → n ≤ t.steps
      → one_more b n ≤ t.steps
  round_more i true n e h f p l = p
  round_more i false zero e h f p l = omega arith
  round_more i false (suc n) e h f p l = rw (more_some n) (go (dec_lt (suc n) t.steps))
    where
      go : Dec (suc n < t.steps) → suc (suc n) ≤ t.steps
      go (yes b) = b
      go (no b) =
          let q : t.steps + (i - suc n) ≡ i = omega arith in
          let r : resets (step_of t i) j ≡ true =
          ap (λ m. resets (step_of t m) j) (sym q)
          ∙ ap (λ s. resets s j) (step_again (i - suc n))
          ∙ h (omega arith) in
          let z : ◌≡◌ {A = ℕ} 0 1 = ap (λ x. cond x 0 1) (sym r ∙ e) in
          absurd (omega arith)

  module _ (some : 0 < t.steps) where
    -- a clock that is ever reset is reset once a round at least
    since_round : (i : ℕ) → since t i j ≤ t.steps
    since_round zero = omega (arith, since_zero t j)
    since_round (suc i) =
        rw (since_suc t i j)
        (round_more i (resets (step_of t i) j) (since t i j) refl (since_reset i) (since_few t i j) some (since_round i))

    -- from the second round on all rounds are alike
    since_again : (i r : ℕ) → t.steps ≤ i → since t (r * t.steps + i) j ≡ since t i j
    since_again i zero l = ap (λ n. since t n j) (omega arith)
    since_again i (suc r) l =
        let n = r * t.steps + i in
        let e : suc r * t.steps + i ≡ t.steps + n = omega arith in
        let f : since t (t.steps + n) j ≤ n = omega (arith, since_round (t.steps + n)) in
        ap (λ m. since t m j) e
        ∙ sym (since_later n ∙ reached_yes (since t (t.steps + n) j) n f)
        ∙ since_again i r l

pub since_distance : (t : Table) (i j : ℕ) → 0 < t.steps → since t i j ≡ reached (distance t (i % t.steps) j) i
since_distance t i j some = go (i / t.steps) refl
  where
    go : (r : ℕ) → i / t.steps ≡ r → since t i j ≡ reached (distance t (i % t.steps) j) i
    go zero e =
        let q : i ≡ i % t.steps = omega (arith, div-add-mod' i t.steps, ap (λ r. r * t.steps) e) in
        since_later t j i ∙ ap (λ n. reached (since t (t.steps + n) j) i) q
    go (suc r) e =
        let q : i ≡ r * t.steps + (t.steps + i % t.steps) =
        omega (arith, div-add-mod' i t.steps, ap (λ r. r * t.steps) e) in
        let l : distance t (i % t.steps) j ≤ i = omega (arith, since_few t (t.steps + i % t.steps) j) in
        ap (λ n. since t n j) q
        ∙ since_again t j some (t.steps + i % t.steps) r (omega arith)
        ∙ sym (reached_yes (distance t (i % t.steps) j) i l)

-- the moment of the last reset of clock j, from its distance d, when i of K steps are past
unfoldable pub last_of : ℕ → ℕ → ℕ → ℕ → ℕ
last_of d K i j = cond (eqb (reached d i) 0) (K + j) (i + 1 - reached d i)

-- its three cases
pub last_none : (d K i j : ℕ) → d ≡ 0 → last_of d K i j ≡ K + j
unfolding last_of
last_none d K i j e = rw (e, reached_yes 0 i (omega arith))

pub last_reached : (d K i j : ℕ) → (d ≡ 0 → ⊥) → d ≤ i → last_of d K i j ≡ i + 1 - d
unfolding last_of
last_reached d K i j e l = rw (reached_yes d i l) (ap (λ b. cond b (K + j) (i + 1 - d)) (ne_eqb d 0 e))

pub last_before : (d K i j : ℕ) → i < d → last_of d K i j ≡ K + j
unfolding last_of
last_before d K i j l = rw (reached_no d i l)

pub last_of_lem : (t : Table) (K i j : ℕ) → 0 < t.steps → last_resets t K i j ≡ last_of (distance t (i % t.steps) j) K i j
unfolding last_of
last_of_lem t K i j some =
    last_since t K i j ∙ ap (λ n. cond (eqb n 0) (K + j) (i + 1 - n)) (since_distance t i j some)

-- The row of the distances of all steps and clocks: that of step s and clock j at place 7 * s + j, 0 after the last step.
abbrev pub distance_at : Table → ℕ → ℕ
distance_at t k = cond (ltb k (7 * t.steps)) (distance t (k / 7) (k % 7)) 0

unfoldable pub distances_of : Table → List ℕ
distances_of t = tab (distance_at t) 112

pub distances_size : (t : Table) → length (distances_of t) ≡ 112
unfolding distances_of
distances_size t = length_tab (distance_at t) 112

pub distance_in : (t : Table) (k : ℕ) → k < 7 * t.steps → distance_at t k ≡ distance t (k / 7) (k % 7)
distance_in t k l = ap (λ b. cond b (distance t (k / 7) (k % 7)) 0) (lt-ltb k (7 * t.steps) l)

pub distance_out : (t : Table) (k : ℕ) → 7 * t.steps ≤ k → distance_at t k ≡ 0
distance_out t k l = ap (λ b. cond b (distance t (k / 7) (k % 7)) 0) (le-ltb k (7 * t.steps) l)

pub distances_at : (t : Table) (s j : ℕ) → t.steps ≤ 16 → s < t.steps → j < 7
    → get_or (distances_of t) (7 * s + j) 0 ≡ distance t s j
unfolding distances_of
distances_at t s j few l b =
    let p : (7 * s + j) / 7 ≡ s = omega arith in
    let q : (7 * s + j) % 7 ≡ j = omega arith in
    get_d_tab (distance_at t) 112 (7 * s + j) (omega arith)
    ∙ distance_in t (7 * s + j) (omega arith)
    ∙ ap (λ n. distance t n ((7 * s + j) % 7)) p
    ∙ ap (distance t s) q

-- the moment of the last reset, from the row
pub last_in_row : (t : Table) (K i j : ℕ) → 0 < t.steps → t.steps ≤ 16 → j < 7
    → last_resets t K i j ≡ last_of (get_or (distances_of t) (7 * (i % t.steps) + j) 0) K i j
last_in_row t K i j some few l =
    last_of_lem t K i j some
    ∙ ap (λ d. last_of d K i j) (sym (distances_at t (i % t.steps) j few (mod-lt i some) l))

-- no number of it is above the steps of a round
pub distances_round : (t : Table) (k : ℕ) → 0 < t.steps → get_or (distances_of t) k 0 ≤ t.steps
unfolding distances_of
distances_round t k some = go (dec_lt k 112)
  where
    inner : Dec (k < 7 * t.steps) → distance_at t k ≤ t.steps
    inner (yes l) = omega (arith, distance_in t k l, since_round t (k % 7) some (t.steps + k / 7))
    inner (no l) = omega (arith, distance_out t k (omega arith))

    go : Dec (k < 112) → get_or (tab (distance_at t) 112) k 0 ≤ t.steps
    go (yes l) = rw (get_d_tab (distance_at t) 112 k l) (inner (dec_lt k (7 * t.steps)))
    go (no l) =
        let o : length (tab (distance_at t) 112) ≤ k = omega (arith, length_tab (distance_at t) 112) in
        omega (arith, get_or-eq_default (tab (distance_at t) 112) 0 o)
