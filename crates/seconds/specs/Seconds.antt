-- A moment in seconds, and what it is to be the binary64 number nearest to a fraction, ties to even.
-- `Float`, `fits`, `round`, `to_bits` and `ne` are those of the logic's account of IEEE 754 (lib.Ieee): the value `fin s m e` is m * 2 ^ e,
-- negative where s is true, and 2 ^ e is the fraction `up e` / `down e`. Only what `fits binary64` is a binary64 value.
use Rattle.std.specs.Prelude.{ℕ, ◌+◌, ◌-◌, ◌*◌, ◌%◌, ◌≤◌, ◌≡◌, Bool, true, false, T, Float}
use Rattle.std.specs.Float.{nan, inf, fin, binary64}
use Rattle.std.specs.Float.Ieee.{up, down, round, fits, ne, to_bits}

-- a moment in parts of a tick as seconds: a tick is a tenth of a second, and the fraction is rounded once
abbrev pub seconds_of : ℕ → ℕ → Float
seconds_of moment parts = round binary64 false moment (10 * parts)

-- x is a number: neither a NaN nor an infinity
abbrev pub number : Float → Bool
number nan = false
number (inf s) = false
number (fin s m e) = true

-- the difference of two whole numbers, whichever is the larger
abbrev pub apart : ℕ → ℕ → ℕ
apart a b = (a - b) + (b - a)

-- The distance from x to a / b is the fraction `gap x a b` / (`scale x` * b).
abbrev pub gap : Float → ℕ → ℕ → ℕ
gap nan a b = 0
gap (inf s) a b = 0
gap (fin false m e) a b = apart (m * up e * b) (a * down e)
gap (fin true m e) a b = m * up e * b + a * down e

abbrev pub scale : Float → ℕ
scale nan = 1
scale (inf s) = 1
scale (fin s m e) = down e

-- x is a binary64 number. No binary64 number y is nearer to a / b. Where another y is as near, x's last binary digit is 0.
pub record Nearest (x : Float) (a b : ℕ) : Type 0 where
  pub held : T (fits binary64 x)
  pub finite : T (number x)
  pub none_nearer : (y : Float) → T (fits binary64 y) → T (number y) → gap x a b * scale y ≤ gap y a b * scale x
  pub tie_even : (y : Float) → T (fits binary64 y) → T (number y) → T (ne y x)
      → gap x a b * scale y ≡ gap y a b * scale x → to_bits binary64 x % 2 ≡ 0
