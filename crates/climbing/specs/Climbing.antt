-- Rounds of a table counted by powers of two, and the effects of these.
use Rattle.std.specs.Prelude.{List, ℕ, ◌+◌, ◌*◌, ◌^◌, ◌≤◌, ◌<◌}
use Rattle.std.proofs.Common.{arith}
use Rattle.std.proofs.Math.Nat.{pow-le-pow_right, one-le-pow}
use Rattle.table.specs.Step.{Step}
use Rattle.runs.specs.Run.{copies}
use Rattle.zones.specs.Matrix.{Matrix}
use Rattle.effects.specs.Describes.{Describes}
use Rattle.effects.specs.Begins.{Begins}
use Rattle.effects.specs.Count.{limit}
use Rattle.effects.specs.Known.{Known}
use Rattle.effects.specs.Whole.{whole}
use Rattle.gluing.specs.Laying.{effect_at}
use Rattle.joins.specs.Rounds.{Tabled, Rounds}

-- From the starts that D allows, c rounds run and c + 2 ^ i do not; M is their effect.
pub record Counted (D : Matrix) (τ : List Step) (i c : ℕ) (M : Matrix) : Type 0 where
  pub known : Known D τ i c
  pub effect : Rounds τ c M
  pub some : 0 < c
  pub small : c + 2 ^ i ≤ limit

-- The first n places of the row m are the effects of 2 ^ 0, 2 ^ 1, .. rounds of a table.
pub record Powers (w : ℕ) (τ : List Step) (n : ℕ) (m : List ℕ) : Type 0 where
  pub table : Tabled τ
  pub at : (j : ℕ) → j < n → Describes (copies τ (2 ^ j)) (whole w (effect_at m (j * 196)))

-- The first i + 1 places are such effects, and 2 ^ i rounds run from the starts that D allows.
pub record Reached (w : ℕ) (D : Matrix) (τ : List Step) (i : ℕ) (m : List ℕ) : Type 0 where
  pub powers : Powers w τ (i + 1) m
  pub runs : Begins D (copies τ (2 ^ i))

-- ---- The powers of two up to the limit

pub power_limit : (i : ℕ) → i ≤ 24 → 2 ^ i ≤ limit
power_limit i h = pow-le-pow_right (omega arith) h

pub power_some : (i : ℕ) → 0 < 2 ^ i
power_some i = one-le-pow i 2 (omega arith)
