-- An effect kept at a place of the row.
use Rattle.std.specs.Prelude.{◌≡◌, refl, ◌⊎◌, ◌≢◌, List, ℕ, ◌+◌, ◌*◌, ◌≤◌, ◌<◌, length, get_or}
use Rattle.std.proofs.Common.{ap, sym, ◌∙◌, inl, inr, ⊎_elim, arith, below_more}
use Rattle.std.proofs.Math.Decide.{dec_lt}
use Rattle.basics.specs.Choice.{not_below_zero}
use Rattle.table.specs.Step.{Step}
use Rattle.zones.specs.Codes.{bound}
use Rattle.zones.specs.Cells.{cell, matrix}
use Rattle.zones.specs.Lines.{LineTo}
use Rattle.effects.specs.Describes.{Describes}
use Rattle.effects.specs.Whole.{Side, whole, whole_same}
use Rattle.gluing.specs.Laying.{code, effect_at}

-- z is m with the first n lines of `size` cells of l kept from index `at` on.
pub record LinesTo (size at n : ℕ) (l m z : List ℕ) : Type 0 where
  pub full : length z ≡ 4900
  pub done : (u v : ℕ) → u < n → v < size → code z at u v ≡ cell l u v
  pub rest : (k : ℕ) → (k < at) ⊎ (at + 196 ≤ k) → get_or z k 0 ≡ get_or m k 0

-- ---- Lines one by one, as a loop takes them

pub lines_none : (size at : ℕ) (l m : List ℕ) → length m ≡ 4900 → LinesTo size at 0 l m m
lines_none size at l m e = record { full = e; done = λ u v h. absurd (not_below_zero u h); rest = λ k q. refl }

pub lines_more : (size at n : ℕ) (l m z y : List ℕ) → size ≤ 14 → n < size → LinesTo size at n l m z
    → LineTo (at + n * 14) (n * 21) size l z y → LinesTo size at (n + 1) l m y
lines_more size at n l m z y s h t r = record {
  full = r.full ∙ t.full;
  done = λ u v hu hv. below_more (λ u. code y at u v ≡ cell l u v) n (λ u k. before u v k hv) (r.done v hv) u hu;
  rest = λ k q. r.rest k (⊎_elim (λ e. inl (omega arith)) (λ e. inr (omega arith)) q) ∙ t.rest k q;
}
  where
    before : (u v : ℕ) → u < n → v < size → code y at u v ≡ cell l u v
    before u v k hv = r.rest (at + u * 14 + v) (inl (omega arith)) ∙ t.done u v k hv

-- ---- What it says of effects

module _ (w : ℕ) (side : Side w) (place : ℕ) {l m z : List ℕ} (t : LinesTo (w + w) (place * 196) (w + w) l m z) where
  -- The effect in the cells is now at its place,
  pub kept_here : {σ : List Step} → Describes σ (whole w (matrix l)) → Describes σ (whole w (effect_at z (place * 196)))
  kept_here =
      whole_same w side (matrix l) (effect_at z (place * 196)) (λ u v hu hv. ap bound (sym (t.done u v hu hv)))

  -- and those at other places are as they were.
  pub kept_other : {σ : List Step} (q : ℕ) → q ≢ place → Describes σ (whole w (effect_at m (q * 196)))
      → Describes σ (whole w (effect_at z (q * 196)))
  kept_other q n =
      whole_same w side (effect_at m (q * 196)) (effect_at z (q * 196))
      (λ u v hu hv. ap bound (sym (t.rest (q * 196 + u * 14 + v) (apart u v hu hv (dec_lt q place)))))
    where
      apart : (u v : ℕ) → u < w + w → v < w + w → Dec (q < place)
          → (q * 196 + u * 14 + v < place * 196) ⊎ (place * 196 + 196 ≤ q * 196 + u * 14 + v)
      apart u v hu hv (yes h) = inl (omega arith)
      apart u v hu hv (no h) = inr (omega arith)
