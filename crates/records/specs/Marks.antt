-- The digits of what a step has: one that is marked is no longer free, and the others are as they were.
use Rattle.std.specs.Prelude.{◌≡◌, ◌≢◌, true, false, ℕ, zero, suc, ◌+◌, ◌-◌, ◌*◌, ◌/◌, ◌%◌, ◌^◌, ◌<◌, eqb}
use Rattle.std.proofs.Common.{sym, ap, ◌∙◌, mod-eq_of_lt, one-mul, arith, pow_pos, pow-add}
use Rattle.std.proofs.lemmas.Bool.{false≢true}
use Rattle.std.proofs.Math.Nat.{div-eq_of_lt}
use Rattle.std.proofs.Math.Decide.{dec_lt, ℕ_discrete}
use Rattle.std.specs.Int.Bits.{bit_or, or_zero_l, or_zero_r, or_self, shifted_even}
use Rattle.std.proofs.lemmas.Nat.{or_shr, or_mod, shl-shr}
use Rattle.std.proofs.Math.Pow.{pow-lt}
use Rattle.records.specs.Rules.{is_free, marked}

-- binary digit i of a number
abbrev digit : ℕ → ℕ → ℕ
digit m i = m / 2 ^ i % 2

-- of a power of two
power_same : (j : ℕ) → digit (2 ^ j) j ≡ 1
power_same j = ap (λ n. digit n j) (sym (one-mul (2 ^ j))) ∙ ap (λ n. n % 2) (shl-shr 1 j)

power_other : (i j : ℕ) → i ≢ j → digit (2 ^ j) i ≡ 0
power_other i j apart = go (dec_lt i j)
  where
    above : (d : ℕ) → j ≡ suc d + i → digit (2 ^ j) i ≡ 0
    above d e =
        ap (λ n. digit n i) (ap (λ n. 2 ^ n) e ∙ pow-add 2 (suc d) i)
        ∙ ap (λ n. n % 2) (shl-shr (2 ^ suc d) i ∙ sym (one-mul (2 ^ suc d))) ∙ shifted_even 1 d

    go : Dec (i < j) → digit (2 ^ j) i ≡ 0
    go (yes l) = above (j - i - 1) (omega arith)
    go (no l) = ap (λ n. n % 2) (div-eq_of_lt (pow-lt (omega arith)))

-- of a number, and with a power of two in it
digit_or : (a b i : ℕ) → digit (bit_or a b) i ≡ bit_or (digit a i) (digit b i)
digit_or a b i = ap (λ n. n % 2) (or_shr a b i) ∙ or_mod (a / 2 ^ i) (b / 2 ^ i) 1

one_or : (d : ℕ) → d < 2 → bit_or d 1 ≡ 1
one_or zero l = or_zero_l 1
one_or (suc zero) l = or_self 1
one_or (suc (suc d)) l = absurd (omega arith)

digit_marked : (m j : ℕ) → digit (bit_or m (2 ^ j)) j ≡ 1
digit_marked m j = digit_or m (2 ^ j) j ∙ ap (bit_or (digit m j)) (power_same j) ∙ one_or (digit m j) (omega arith)

digit_kept : (m i j : ℕ) → i ≢ j → digit (bit_or m (2 ^ j)) i ≡ digit m i
digit_kept m i j apart = digit_or m (2 ^ j) i ∙ ap (bit_or (digit m i)) (power_other i j apart) ∙ or_zero_r (digit m i)

-- a power of two below 2^32 is left whole by a number of 32 digits
pub power_word : (j : ℕ) → j < 32 → 1 * 2 ^ j % 2 ^ 32 ≡ 2 ^ j
power_word j h = ap (λ n. n % 2 ^ 32) (one-mul (2 ^ j)) ∙ mod-eq_of_lt (pow-lt {i = j} {j = 32} h)

-- At first all digits are free;
pub all_free : (j : ℕ) → is_free 0 j ≡ true
unfolding is_free
all_free j = ap (λ n. eqb (n % 2) 0) (div-eq_of_lt (pow_pos (j % 32)))

-- a digit that is marked is not, and stays so;
pub marked_same : (m j : ℕ) → is_free (marked m j) j ≡ false
unfolding is_free marked
marked_same m j = ap (λ d. eqb d 0) (digit_marked m (j % 32))

pub marked_keeps : (m i j : ℕ) → is_free m i ≡ false → is_free (marked m j) i ≡ false
unfolding is_free marked
marked_keeps m i j e = go (ℕ_discrete (i % 32) (j % 32))
  where
    go : Dec (i % 32 ≡ j % 32) → eqb (digit (bit_or m (2 ^ (j % 32))) (i % 32)) 0 ≡ false
    go (yes same) = ap (λ n. eqb (digit (bit_or m (2 ^ (j % 32))) n) 0) same ∙ ap (λ d. eqb d 0) (digit_marked m (j % 32))
    go (no apart) = ap (λ d. eqb d 0) (digit_kept m (i % 32) (j % 32) apart) ∙ e

-- and another is as it was.
pub marked_other : (m i j : ℕ) → i < 32 → j < 32 → i ≢ j → is_free (marked m j) i ≡ is_free m i
unfolding is_free marked
marked_other m i j h k apart = ap (λ d. eqb d 0) (digit_kept m (i % 32) (j % 32) (λ e. apart (omega (arith, e))))

-- So a number with a digit marked is not 0.
pub marked_some : (m j : ℕ) → marked m j ≢ 0
marked_some m j e = false≢true (sym (marked_same m j) ∙ ap (λ n. is_free n j) e ∙ all_free j)
