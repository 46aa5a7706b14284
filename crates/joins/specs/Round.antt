-- The effect of the steps of an accepted table one after the other.
use Rattle.std.specs.Prelude.{◌≡◌, refl, Bool, false, ℕ, zero, suc, ◌+◌, ◌≤◌, ◌<◌}
use Rattle.std.proofs.Common.{sym, ap, subst, arith, add-one}
use mathlib.Core.List.{List, [], ◌∷◌, ◌++◌, Memᴰ}
use Rattle.table.specs.declared.Table.{Table}
use Rattle.table.specs.Step.{Step, Fair, Fairs, step_at, steps_from, steps_of, Good}
use Rattle.table.specs.Steps.{length_steps_from, step_fair, step_member}
use Rattle.runs.specs.Steps.{steps_split}
use Rattle.runs.specs.Tools.{every_nil, every_cons}
use Rattle.zones.specs.Matrix.{Matrix}
use Rattle.effects.specs.Describes.{Describes, NoRun}
use Rattle.effects.specs.StepDemands.{Uses}
use Rattle.effects.specs.Whole.{Side, whole}
use Rattle.effects.specs.Tells.{Tells, tells_stuck, Sized}
use Rattle.effects.specs.Joining.{Joinable, Joins, effect_joinable, join_tells}

-- The clocks of the table's steps are among 1 to w - 1.
abbrev pub UsesAll : ℕ → Table → Type 0
UsesAll w t = (s : Step) → Memᴰ s (steps_of t) → Uses w s

pub step_uses : (w : ℕ) (t : Table) → UsesAll w t → (i : ℕ) → i < t.steps → Uses w (step_at t i)
step_uses w t u i h = u (step_at t i) (step_member t i h)

-- ---- Steps one after the other

pub steps_first : (t : Table) → steps_from t 0 1 ≡ step_at t 0 ∷ []
unfolding steps_from
steps_first t = refl

from_more : (t : Table) (a n : ℕ) → steps_from t a (suc n) ≡ steps_from t a n ++ (step_at t (a + n) ∷ [])
unfolding steps_from
from_more t a zero = let e : a + 0 ≡ a = omega arith in rw e
from_more t a (suc n) =
    let e : suc a + n ≡ a + suc n = omega arith in
    ap (λ σ. step_at t a ∷ σ) (rw e at (from_more t (suc a) n))

-- Step i follows the steps before it.
steps_more : (t : Table) (i : ℕ) → steps_from t 0 (i + 1) ≡ steps_from t 0 i ++ (step_at t i ∷ [])
steps_more t i = let e : 0 + i ≡ i = omega arith in rw add-one (rw e at (from_more t 0 i))

fair_from : (t : Table) → Good t → (a n : ℕ) → a + n ≤ t.steps → Fairs (steps_from t a n)
unfolding steps_from
fair_from t good a zero h = every_nil Fair
fair_from t good a (suc n) h =
    (every_cons Fair _ _).1 (step_fair t good a (omega arith), fair_from t good (suc a) n (omega arith))

module _ (t : Table) (good : Good t) (i : ℕ) where
  -- The first i steps, at least one.
  sized_from : 0 < i → i ≤ t.steps → Sized (steps_from t 0 i)
  sized_from p h = record {
    fair = fair_from t good 0 i (omega arith);
    some = omega (arith, length_steps_from t 0 i);
    few = omega (arith, length_steps_from t 0 i, good.steps_few);
  }

  sized_step : i < t.steps → Sized (step_at t i ∷ [])
  sized_step h = record {
    fair = (every_cons Fair _ _).1 (step_fair t good i h, every_nil Fair);
    some = omega arith;
    few = omega arith;
  }

-- ---- One step more

-- Where the step has no run, the steps up to it have none.
pub more_stuck : (t : Table) (i : ℕ) {M : Matrix} → NoRun (step_at t i ∷ []) → Tells (steps_from t 0 (i + 1)) false M
more_stuck t i n =
    rw (steps_more t i)
    (tells_stuck (λ P u v p r. let h = steps_split P (steps_from t 0 i) (step_at t i ∷ []) r in n P h.0 v p h.2))

module _ (w : ℕ) (side : Side w) (t : Table) (good : Good t) (i : ℕ) (some : 0 < i) (b : i < t.steps) (A B : Matrix)
    (dA : Describes (steps_from t 0 i) (whole w A)) (dB : Describes (step_at t i ∷ []) (whole w B)) where
  -- Else both have an effect, which may be joined,
  pub more_joinable : Joinable w A × Joinable w B
  more_joinable = (
    effect_joinable w side A (sized_from t good i some (omega arith)) dA,
    effect_joinable w side B (sized_step t good i b) dB,
  )

  -- and that tells of the steps up to it.
  pub more_tells : (C : Matrix) (ok : Bool) → Joins w A B ok C → Tells (steps_from t 0 (i + 1)) ok (whole w C)
  more_tells C ok j =
      rw (steps_more t i)
      (join_tells w side (sized_from t good i some (omega arith)) (sized_step t good i b) A B C dA dB ok j)

from_split : (t : Table) (a j n : ℕ) → j ≤ n → (τ : List Step) × (steps_from t a n ≡ steps_from t a j ++ τ)
unfolding steps_from
from_split t a zero n l = (steps_from t a n, refl)
from_split t a (suc j) zero l = absurd (omega arith)
from_split t a (suc j) (suc n) l =
    let r = from_split t (suc a) j n (omega arith) in (r.0, ap (λ σ. step_at t a ∷ σ) r.1)

-- Where the steps up to one have no run, the round has none.
pub round_stuck : (t : Table) (i : ℕ) → i ≤ t.steps → {M : Matrix} → NoRun (steps_from t 0 i) → Tells (steps_of t) false M
unfolding steps_of
round_stuck t i h n = tells_stuck (λ P u v p r. go (from_split t 0 i t.steps h) P u v p r)
  where
    go : (τ : List Step) × (steps_from t 0 t.steps ≡ steps_from t 0 i ++ τ) → NoRun (steps_from t 0 t.steps)
    go (τ, e) = subst NoRun (sym e) (λ P u v p r. let k = steps_split P (steps_from t 0 i) τ r in n P u k.0 p k.1)
