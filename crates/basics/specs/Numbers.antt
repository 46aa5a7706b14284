-- The largest and the sum of g 0, g 1, .., g (n - 1).
use Rattle.std.specs.Prelude.{◌≡◌, ℕ, zero, suc, ◌+◌, ◌≤◌, ◌<◌, max}
use Rattle.std.proofs.Common.{arith}
use Rattle.std.proofs.Math.Decide.{dec_lt}

-- The largest, or 0.
unfoldable pub top : ℕ → (ℕ → ℕ) → ℕ
top zero g = 0
top (suc n) g = max (top n g) (g n)

pub top_ge : (n : ℕ) (g : ℕ → ℕ) (i : ℕ) → i < n → g i ≤ top n g
unfolding top
top_ge zero g i h = omega arith
top_ge (suc n) g i h = go (top_ge n g i) (dec_lt i n)
  where
    go : (i < n → g i ≤ top n g) → Dec (i < n) → g i ≤ max (top n g) (g n)
    go below (yes l) = omega (arith, below l)
    go below (no l) = let e : i ≡ n = omega arith in rw e (omega arith)

-- The sum.
unfoldable pub sum : (ℕ → ℕ) → ℕ → ℕ
sum g zero = 0
sum g (suc n) = sum g n + g n

-- Its first number apart.
pub sum_first : (g : ℕ → ℕ) (n : ℕ) → sum g (suc n) ≡ g 0 + sum (λ k. g (suc k)) n
unfolding sum
sum_first g zero = omega arith
sum_first g (suc n) = omega (arith, sum_first g n)
