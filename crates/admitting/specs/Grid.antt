-- The left part of an effect in a list of codes, from index `base` on, with rows that begin `stride` codes apart.
use Rattle.std.specs.Prelude.{◌≡◌, List, ℕ, ◌+◌, ◌*◌, ◌^◌, ◌≤◌, ◌<◌, length, get_or}
use Rattle.std.proofs.Common.{ap, ◌∙◌, inl, arith, mul-le-mul_right, below_more}
use Rattle.basics.specs.Choice.{not_below_zero}
use Rattle.table.specs.Step.{Step}
use Rattle.zones.specs.Codes.{bound, within_coded}
use Rattle.zones.specs.Cells.{cell, matrix, Ranged}
use Rattle.zones.specs.Lines.{LineTo}
use Rattle.effects.specs.Whole.{Side}
use Rattle.effects.specs.Joining.{effect_joinable}
use Rattle.effects.specs.Stored.{grid_of, EffectOf}

-- The first w rows of w codes lie in a list of that size.
pub record Lies (w base stride size : ℕ) : Type 0 where
  pub wide : w ≤ stride
  pub most : w ≤ 7
  pub fits : base + w * stride ≤ size
  pub small : size ≤ 4900

-- z has the first n rows of w codes of m in its cells.
pub record LeftTo (w n base stride : ℕ) (m z : List ℕ) : Type 0 where
  pub full : length z ≡ 441
  pub done : (a b : ℕ) → a < n → b < w → cell z a b ≡ get_or m (base + a * stride + b) 0

-- ---- Row by row, as a loop takes them

module _ {w base stride : ℕ} {m : List ℕ} where
  pub left_none : {l : List ℕ} → length l ≡ 441 → LeftTo w 0 base stride m l
  left_none e = record { full = e; done = λ a b h. absurd (not_below_zero a h) }

  pub left_more : {n : ℕ} {l z : List ℕ} → w ≤ 7 → LeftTo w n base stride m l
      → LineTo (n * 21) (base + n * stride) w m l z → LeftTo w (n + 1) base stride m z
  left_more {n} {l} {z} h t r = record {
    full = r.full ∙ t.full;
    done = λ a b ha hb. below_more (λ a. cell z a b ≡ get_or m (base + a * stride + b) 0) n
        (λ a k. r.rest (a * 21 + b) (inl (omega arith)) ∙ t.done a b k hb) (r.done b hb) a ha;
  }

-- Each lies in the list.
pub row_fits : {w base stride size : ℕ} → Lies w base stride size → (n : ℕ) → n < w
    → (base + n * stride + stride ≤ size) × (base + n * stride + stride ≡ base + (n + 1) * stride)
row_fits {stride = stride} l n h = (omega (arith, l.fits, mul-le-mul_right stride h), omega arith)

-- ---- What it says of the effect

module _ {w base stride : ℕ} {m l : List ℕ} (side : Side w) (t : LeftTo w w base stride m l) where
  -- The cells stand for the same bounds,
  pub left_same : (a b : ℕ) → a < w → b < w → matrix l a b ≡ grid_of m base stride a b
  left_same a b ha hb = ap bound (t.done a b ha hb)

  -- and are in range.
  pub left_ranged : {σ : List Step} → EffectOf w base stride m σ → Ranged (2 ^ 52) w l
  left_ranged e = record {
    full = t.full;
    coded = λ a b ha hb.
        rw (t.done a b ha hb)
        (within_coded (2 ^ 52) _
        ((effect_joinable w side (grid_of m base stride) e.sized e.describes).within a b (omega arith) (omega arith)));
  }

-- ---- At a place of the row of effects, and in cells

pub place_lies : {w : ℕ} → Side w → (at : ℕ) {size : ℕ} → at + 196 ≤ 4900 → size ≡ 4900 → Lies w at 14 size
place_lies side at h e = record { wide = omega arith; most = side.1; fits = omega arith; small = omega arith }

pub cells_lie : {w : ℕ} → Side w → {size : ℕ} → size ≡ 441 → Lies w 0 21 size
cells_lie side e = record { wide = omega arith; most = side.1; fits = omega arith; small = omega arith }
