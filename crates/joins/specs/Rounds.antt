-- Rounds of a table and their effects, in matrices of w vertices for each configuration.
use Rattle.std.proofs.Common.{sym, subst, arith, mul-le-mul_right, mul-pos}
use Rattle.std.specs.Prelude.{Bool, List, ℕ, ◌+◌, ◌≤◌, ◌<◌, length}
use Rattle.table.specs.declared.Table.{Table}
use Rattle.table.specs.Step.{Step, Fairs, steps_of, Good}
use Rattle.table.specs.Steps.{length_steps}
use Rattle.runs.specs.Run.{copies}
use Rattle.runs.specs.Copies.{copies_add, length_copies, fairs_copies}
use Rattle.zones.specs.Matrix.{Matrix}
use Rattle.effects.specs.Describes.{Describes}
use Rattle.effects.specs.Count.{limit}
use Rattle.effects.specs.Whole.{Side, whole}
use Rattle.effects.specs.Tells.{Tells, Sized}
use Rattle.effects.specs.Joining.{Joinable, Joins, effect_joinable, join_tells}

-- The steps of a table: fair, at least one and at most sixteen.
pub record Tabled (τ : List Step) : Type 0 where
  pub fair : Fairs τ
  pub some : 0 < length τ
  pub few : length τ ≤ 16

-- Those of an accepted table.
pub good_tabled : (t : Table) → Good t → Tabled (steps_of t)
good_tabled t good = record {
  fair = good.fair;
  some = omega (arith, length_steps t, good.steps_some);
  few = omega (arith, length_steps t, good.steps_few);
}

-- M is the effect of k rounds of a table.
pub record Rounds (τ : List Step) (k : ℕ) (M : Matrix) : Type 0 where
  pub table : Tabled τ
  pub describes : Describes (copies τ k) M

-- ---- Rounds joined

pub sized_rounds : {τ : List Step} → Tabled τ → (k : ℕ) → 0 < k → k ≤ limit → Sized (copies τ k)
sized_rounds {τ} t k p h = record {
  fair = fairs_copies τ k t.fair;
  some = omega (arith, length_copies τ k, mul-pos p t.some);
  few = omega (arith, length_copies τ k, mul-le-mul_right (length τ) h, t.few);
}

module _ (w : ℕ) (side : Side w) {τ : List Step} {j k : ℕ} (A B : Matrix) (a : Rounds τ j (whole w A))
    (b : Rounds τ k (whole w B)) (pj : 0 < j) (pk : 0 < k) (hj : j ≤ limit) (hk : k ≤ limit) where
  -- Effects of rounds may be joined,
  pub rounds_joinable : Joinable w A × Joinable w B
  rounds_joinable = (
    effect_joinable w side A (sized_rounds a.table j pj hj) a.describes,
    effect_joinable w side B (sized_rounds a.table k pk hk) b.describes,
  )

  -- and tell of the rounds together.
  pub rounds_tell : (C : Matrix) (ok : Bool) → Joins w A B ok C → Tells (copies τ (j + k)) ok (whole w C)
  rounds_tell C ok e =
      subst (λ (σ : List Step). Tells σ ok (whole w C)) (sym (copies_add τ j k))
      (join_tells w side (sized_rounds a.table j pj hj) (sized_rounds a.table k pk hk) A B C a.describes
      b.describes ok e)
