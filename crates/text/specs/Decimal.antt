-- Numbers in decimal, as bytes: the digits 0 to 9 are 48 to 57.
use Rattle.std.specs.Prelude.{◌≡◌, cond, ℕ, zero, suc, ◌+◌, ◌*◌, ◌-◌, ◌/◌, ◌%◌, ◌≤◌, ltb, length, get_or}
use mathlib.Core.List.{List, [], ◌∷◌, ◌++◌, Memᴰ}

-- the last n digits of a number, or all of them where there are fewer
unfoldable pub digits : ℕ → ℕ → List ℕ
digits zero x = []
digits (suc n) x = cond (ltb x 10) ((48 + x) ∷ []) (digits n (x / 10) ++ ((48 + x % 10) ∷ []))

-- a number below 10^20, so any u64, in decimal
abbrev pub decimal : ℕ → List ℕ
decimal x = digits 20 x

-- a word and then a number
abbrev pub field : List ℕ → ℕ → List ℕ
field word x = word ++ decimal x

-- the value in base ten of the digits, read from the left, that follow those of a value
unfoldable pub value_from : ℕ → List ℕ → ℕ
value_from before [] = before
value_from before (d ∷ ds) = value_from (before * 10 + (d - 48)) ds

-- What the decimal of x is: one digit or more, no leading zero but that of "0", and the value x.
-- That `decimal` gives it is `decimal_right` of Numerals.
pub record Numeral (x : ℕ) (ds : List ℕ) : Type 0 where
  pub some : 1 ≤ length ds
  pub digit : (d : ℕ) → Memᴰ d ds → (48 ≤ d) × (d ≤ 57)
  pub lead : get_or ds 0 0 ≡ 48 → ds ≡ 48 ∷ []
  pub value : value_from 0 ds ≡ x
