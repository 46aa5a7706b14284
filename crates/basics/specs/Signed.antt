-- Numbers up to 2^62 as signed ones of 64 bits: neither they nor their differences wrap, and each is read back from its bits.
use Rattle.std.specs.Prelude.{◌≡◌, Bool, true, false, cond, ℕ, zero, suc, ◌-◌, ◌^◌, ◌≤◌, ltb, ℤ, pos, negsuc, ◌-ℤ◌}
use Rattle.std.proofs.Common.{sym, ◌∙◌, subst, ap, arith, SFits, to_z, of_z}
use Rattle.std.specs.Int.{w64}
use Rattle.std.proofs.lemmas.Int.{to_z_pos, to_z-of_z}

pub small : (n : ℕ) → n ≤ 2 ^ 62 → to_z w64 n ≡ pos n
small n h = to_z_pos w64 n (omega arith)

pub small_fits : (n : ℕ) → n ≤ 2 ^ 62 → SFits w64 (pos n)
small_fits n h = record { sfits = omega arith }

pub fits : (a b : ℕ) → a ≤ 2 ^ 62 → b ≤ 2 ^ 62 → SFits w64 (pos a -ℤ pos b)
fits a zero h k = record { sfits = omega arith }
fits a (suc b) h k = by (ltb a (suc b))
  where
    by : (t : Bool) → SFits w64 (cond t (negsuc (suc b - suc a)) (pos (a - suc b)))
    by true = record { sfits = omega arith }
    by false = record { sfits = omega arith }

-- A stored number that fits is read back from its bits.
pub read_back : (r z : ℤ) → r ≡ z → SFits w64 z → to_z w64 (of_z w64 r) ≡ z
read_back r z e f = ap (λ x. to_z w64 (of_z w64 x)) e ∙ to_z-of_z w64 z f

module _ (a b : ℕ) (h : a ≤ 2 ^ 62) (k : b ≤ 2 ^ 62) (z : ℤ) (e : z ≡ pos a -ℤ pos b) where
  -- So is a difference, told in any way.
  pub difference_fits : SFits w64 z
  difference_fits = subst (SFits w64) (sym e) (fits a b h k)

  pub difference : to_z w64 (of_z w64 z) ≡ pos a -ℤ pos b
  difference = read_back z (pos a -ℤ pos b) e (fits a b h k)

module _ (a b : ℕ) (h : a ≤ 2 ^ 62) where
  -- Two numbers read from their bits, and one less a number written in the code.
  pub less_read : b ≤ 2 ^ 62 → to_z w64 a -ℤ to_z w64 b ≡ pos a -ℤ pos b
  less_read k = λ i. small a h i -ℤ small b k i

  pub less_written : to_z w64 a -ℤ pos b ≡ pos a -ℤ pos b
  less_written = ap (λ z. z -ℤ pos b) (small a h)
