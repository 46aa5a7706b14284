-- Joining the effects of any two numbers of rounds gives that of their sum.
use Rattle.std.specs.Prelude.{refl, true, List, ℕ, ◌+◌, ◌≤◌, ◌<◌}
use Rattle.std.proofs.Common.{arith, mul-pos}
use Rattle.table.specs.Step.{Step}
use Rattle.runs.specs.Run.{copies}
use Rattle.runs.specs.Demand.{Clocks}
use Rattle.runs.specs.Copies.{length_copies, fairs_copies, clocks_copies}
use Rattle.zones.specs.Matrix.{Matrix}
use Rattle.effects.specs.Count.{limit}
use Rattle.effects.specs.Tightest.{Tightest, describes_tightest}
use Rattle.effects.specs.Whole.{Side, whole}
use Rattle.effects.specs.Joining.{Joins}
use Rattle.joins.specs.Rounds.{Rounds, rounds_tell}

-- A and B are the effects of j and of k rounds, and C is what joining them gives: its entries are the tightest bounds that every run of j + k
-- rounds keeps.
pub sum_tightest : (n : ℕ) → Side (n + 1) → {τ : List Step} {j k : ℕ} → Clocks n τ → (A B C : Matrix) → Rounds τ j (whole (n + 1) A)
    → Rounds τ k (whole (n + 1) B) → 0 < j → 0 < k → j ≤ limit → k ≤ limit → Joins (n + 1) A B true C
    → (a b : ℕ) → a < n + 1 + (n + 1) → b < n + 1 + (n + 1) → Tightest n (copies τ (j + k)) a b (C a b)
sum_tightest n side {τ} {j} {k} on A B C dA dB pj pk lj lk e a b ha hb =
    describes_tightest n side (copies τ (j + k)) (fairs_copies τ (j + k) dA.table.fair) (clocks_copies n τ (j + k) on)
    (omega (arith, length_copies τ (j + k), mul-pos both dA.table.some)) C
    ((rounds_tell (n + 1) side A B dA dB pj pk lj lk C true e).runs refl) a b ha hb
  where
    both : 0 < j + k
    both = omega arith
