-- What the answer of a program that makes effects says of a list of steps.
use Rattle.std.specs.Prelude.{◌≡◌, Bool, true, false, List, ℕ, ◌+◌, suc, ◌*◌, ◌^◌, ◌≤◌, ◌<◌, length}
use Rattle.std.proofs.Common.{arith}
use Rattle.table.specs.Step.{Step, Fairs}
use Rattle.zones.specs.Weight.{within_wider}
use Rattle.zones.specs.Linear.{AllWithin}
use Rattle.zones.specs.Matrix.{Matrix}
use Rattle.effects.specs.Describes.{Describes, NoRun}
use Rattle.effects.specs.Range.{range}

-- Where `ok` is true, M is the effect of σ; where it is false, σ has no run.
pub record Tells (σ : List Step) (ok : Bool) (M : Matrix) : Type 0 where
  pub runs : ok ≡ true → Describes σ M
  pub stuck : ok ≡ false → NoRun σ

-- It may tell so of any matrix,
pub tells_stuck : {σ : List Step} {M : Matrix} → NoRun σ → Tells σ false M
tells_stuck n = record { runs = λ h. absurd (clash h); stuck = λ h. n }
  where
    clash : false ≡ true → ⊥
    clash h = let z : ◌≡◌ {A = ℕ} 0 1 = cc in omega arith

-- and of the effect.
pub tells_runs : {σ : List Step} {M : Matrix} → Describes σ M → Tells σ true M
tells_runs d = record { runs = λ h. d; stuck = λ h. absurd (clash h) }
  where
    clash : true ≡ false → ⊥
    clash h = let z : ◌≡◌ {A = ℕ} 0 1 = cc in omega arith

-- Fair steps, at least one and at most 2^32.
pub record Sized (σ : List Step) : Type 0 where
  pub fair : Fairs σ
  pub some : 0 < length σ
  pub few : length σ ≤ 2 ^ 32

-- Their effect lies in the range that joining asks for.
pub effect_within : {σ : List Step} {M : Matrix} → Sized σ → Describes σ M → AllWithin 14 (2 ^ 52) M
effect_within {σ} {M} s d a b ha hb =
    within_wider (4001 * (7 + length σ)) (2 ^ 52) _ (omega (arith, s.few))
    (range σ s.fair s.some M d a b ha hb)
