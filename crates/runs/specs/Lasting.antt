-- Starting readings from which every number of rounds runs, the later moments in whatever finer parts they need, and the smallest of them.
use Rattle.std.specs.Prelude.{List, ◌≡◌, ℕ, ◌+◌, ◌*◌, ◌≤◌, ◌<◌}
use Rattle.std.proofs.Common.{arith}
use Rattle.table.specs.Step.{Step}
use Rattle.runs.specs.Run.{copies, Run}

-- A run of σ from the readings s, which are in P parts to a tick: its moments, and the readings, in parts that are finer, each of the P cut
-- into `finer`.
pub record RunsFrom (P : ℕ) (σ : List Step) (s : ℕ → ℕ) : Type 0 where
  pub finer : ℕ
  pub positive : 0 < finer
  pub moments : ℕ → ℕ
  pub run : Run (finer * P) σ moments (λ j. finer * s j)

-- Every number of rounds of τ runs from the readings s.
pub record Lasting (P : ℕ) (τ : List Step) (s : ℕ → ℕ) : Type 0 where
  pub runs : (k : ℕ) → RunsFrom P (copies τ k) s

-- The readings s of clocks 1 to n (02: timers), in n + 1 parts to a tick, are such, and no such readings in these parts have a smaller one of
-- any clock.
pub record Smallest (n : ℕ) (τ : List Step) (s : ℕ → ℕ) : Type 0 where
  pub lasting : Lasting (n + 1) τ s
  pub least : (r : ℕ → ℕ) → Lasting (n + 1) τ r → (j : ℕ) → 0 < j → j ≤ n → s j ≤ r j

-- There is only one of them.
pub smallest_one : {n : ℕ} {τ : List Step} {s r : ℕ → ℕ} → Smallest n τ s → Smallest n τ r → (j : ℕ) → 0 < j → j ≤ n → s j ≡ r j
smallest_one {s = s} {r = r} a b j p l = omega (arith, a.least r b.lasting j p l, b.least s a.lasting j p l)
