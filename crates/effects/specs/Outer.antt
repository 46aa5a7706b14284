-- Three configurations as one row of values, vertices 0 to 20, and its outer fourteen vertices: the first and the last.
use Rattle.std.specs.Prelude.{◌≡◌, ◌⊎◌, ℕ, ◌+◌, ◌-◌, ◌≤◌, ◌<◌}
use Rattle.std.proofs.Math.Path.{sym}
use Rattle.std.proofs.Common.{◌∙◌, inl, inr}
use native.Mathlib.Omega.{arith}
use Rattle.std.proofs.Math.Decide.{dec_le, dec_lt}
use Rattle.runs.specs.Steps.{Config, Same}
use Rattle.basics.specs.Choice.{choose, choose_yes, choose_no, choose_cases, either}
use Rattle.zones.specs.Matrix.{Matrix}
use Rattle.effects.specs.Describes.{past}

-- The vertex of twenty-one that is vertex a of the outer fourteen.
unfoldable pub outer : ℕ → ℕ
outer a = choose (dec_lt a 7) a (7 + a)

-- The outer part of a matrix.
unfoldable pub restrict : Matrix → Matrix
restrict C a b = C (outer a) (outer b)

pub outer_left : (a : ℕ) → a < 7 → outer a ≡ a
unfolding outer
outer_left a h = choose_yes (dec_lt a 7) a (7 + a) h

pub outer_right : (a : ℕ) → 7 ≤ a → outer a ≡ 7 + a
unfolding outer
outer_right a h = choose_no (dec_lt a 7) a (7 + a) (omega arith)

pub outer_low : (a : ℕ) → a < 14 → outer a < 21
unfolding outer
outer_low a h = choose_cases (λ b. b < 21) (dec_lt a 7) a (7 + a) (λ k. omega arith) (λ k. omega arith)

-- ---- Back again

abbrev pub Outside : ℕ → Type 0
Outside a = (a < 7) ⊎ (14 ≤ a)

pub outside : (a : ℕ) → Dec (Outside a)
outside a = either (dec_lt a 7) (dec_le 14 a)

unfoldable pub inner : ℕ → ℕ
inner a = choose (dec_lt a 7) a (a - 7)

pub inner_left : (a : ℕ) → a < 7 → inner a ≡ a
unfolding inner
inner_left a h = choose_yes (dec_lt a 7) a (a - 7) h

pub inner_right : (a : ℕ) → 7 ≤ a → inner a ≡ a - 7
unfolding inner
inner_right a h = choose_no (dec_lt a 7) a (a - 7) (omega arith)

pub inner_low : (a : ℕ) → a < 21 → inner a < 14
unfolding inner
inner_low a h = choose_cases (λ b. b < 14) (dec_lt a 7) a (a - 7) (λ k. omega arith) (λ k. omega arith)

pub outer_inner : (a : ℕ) → Outside a → outer (inner a) ≡ a
outer_inner a (inl h) = rw (inner_left a h) (outer_left a h)
outer_inner a (inr h) = rw (inner_right a (omega arith)) (outer_right (a - 7) (omega arith) ∙ omega arith)

-- ---- The row

unfoldable pub row : Config → Config → Config → ℕ → ℕ
row u w v a = choose (dec_lt a 7) (u a) (choose (dec_lt a 14) (w (a - 7)) (v (a - 14)))

module _ (u w v : Config) where
  pub row_left : Same u (row u w v)
  unfolding row
  row_left a l = sym (choose_yes (dec_lt a 7) _ _ l)

  pub row_middle : Same w (past (row u w v))
  unfolding row
  row_middle a l =
      let e : 7 + a - 7 ≡ a = omega arith in
      sym (rw (
        choose_no (dec_lt (7 + a) 7) (u (7 + a)) _ (omega arith),
        choose_yes (dec_lt (7 + a) 14) (w (7 + a - 7)) (v (7 + a - 14)) (omega arith),
        e,
      ))

  pub row_right : Same v (past (past (row u w v)))
  unfolding row
  row_right a l =
      let e : 7 + (7 + a) - 14 ≡ a = omega arith in
      sym (rw (
        choose_no (dec_lt (7 + (7 + a)) 7) (u (7 + (7 + a))) _ (omega arith),
        choose_no (dec_lt (7 + (7 + a)) 14) (w (7 + (7 + a) - 7)) (v (7 + (7 + a) - 14)) (omega arith),
        e,
      ))

-- Its outer part is the first and the last configuration.
pub row_outer : (x : ℕ → ℕ) (w : Config) (a : ℕ) → a < 14 → row x w (past x) (outer a) ≡ x a
row_outer x w a h = go (dec_lt a 7)
  where
    go : Dec (a < 7) → row x w (past x) (outer a) ≡ x a
    go (yes k) = rw (outer_left a k) (sym (row_left x w (past x) a k))
    go (no k) =
        let e : 7 + a ≡ 7 + (7 + (a - 7)) = omega arith in
        let f : 7 + (a - 7) ≡ a = omega arith in
        rw (outer_right a (omega arith), e) (sym (row_right x w (past x) (a - 7) (omega arith)) ∙ rw f)
