-- An effect with w vertices for each configuration in a list of codes: from index `base` on, rows that begin `stride` codes apart.
use Rattle.std.proofs.Common.{ap, arith}
use Rattle.std.specs.Prelude.{List, ℕ, ◌+◌, ◌*◌, get_or}
use Rattle.table.specs.Step.{Step}
use Rattle.zones.specs.Matrix.{Matrix}
use Rattle.zones.specs.Codes.{bound}
use Rattle.zones.specs.Cells.{matrix}
use Rattle.effects.specs.Describes.{Describes}
use Rattle.effects.specs.Whole.{Side, whole, whole_same}
use Rattle.effects.specs.Tells.{Sized}

-- The matrix that the codes stand for.
abbrev pub grid_of : List ℕ → ℕ → ℕ → Matrix
grid_of m base stride a b = bound (get_or m (base + a * stride + b) 0)

-- It is the effect of σ.
pub record EffectOf (w base stride : ℕ) (m : List ℕ) (σ : List Step) : Type 0 where
  pub sized : Sized σ
  pub describes : Describes σ (whole w (grid_of m base stride))

-- The effect in the first 2 * w vertices of cells.
pub cells_effect : {w : ℕ} → Side w → {l : List ℕ} {σ : List Step} → Sized σ → Describes σ (whole w (matrix l))
    → EffectOf w 0 21 l σ
cells_effect {w} side {l} s d = record {
  sized = s;
  describes = whole_same w side (matrix l) (grid_of l 0 21) (λ u v hu hv. ap (λ k. bound (get_or l k 0)) (omega arith)) d;
}
