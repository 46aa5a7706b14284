-- Two effects joined, in matrices of w vertices for each configuration: what is asked of them, and what is told.
use Rattle.std.specs.Prelude.{◌≡◌, Bool, true, false, List, ◌++◌, ℕ, ◌+◌, ◌^◌, ◌<◌}
use Rattle.table.specs.Step.{Step}
use Rattle.zones.specs.Matrix.{Matrix, Closed, Flat}
use Rattle.zones.specs.Closure.{Canonical}
use Rattle.zones.specs.Weight.{Within}
use Rattle.zones.specs.Linear.{AllWithin}
use Rattle.effects.specs.Describes.{Describes}
use Rattle.effects.specs.Tells.{Tells, Sized, effect_within}
use Rattle.effects.specs.Whole.{Side, whole, whole_entries, whole_closed, whole_flat}
use Rattle.effects.specs.WholeJoin.{Halves, whole_joined, join_stuck}

-- M may be joined: it is closed and flat, and in a range in which no sum wraps.
pub record Joinable (w : ℕ) (M : Matrix) : Type 0 where
  pub within : AllWithin (w + w) (2 ^ 52) M
  pub closed : Closed (w + w) M
  pub flat : Flat (w + w) M

-- C is what A and B are joined to, or nothing solves both.
pub record Joins (w : ℕ) (A B : Matrix) (ok : Bool) (C : Matrix) : Type 0 where
  pub runs : ok ≡ true → Canonical (w + w + w) C (Halves w A B)
  pub stuck : ok ≡ false → (P : ℕ) (y : ℕ → ℕ) → 0 < P → ¬ Halves w A B P y

module _ (w : ℕ) (side : Side w) where
  -- An effect may be joined,
  pub effect_joinable : {σ : List Step} (M : Matrix) → Sized σ → Describes σ (whole w M) → Joinable w M
  effect_joinable M s d = record {
    within = whole_entries w side M (Within (2 ^ 52)) (effect_within s d);
    closed = whole_closed w side M d.closed;
    flat = whole_flat w side M d.flat;
  }

  -- and two of them tell the effect of one list of steps after the other.
  pub join_tells : {σ τ : List Step} → Sized σ → Sized τ → (A B C : Matrix) → Describes σ (whole w A)
      → Describes τ (whole w B) → (ok : Bool) → Joins w A B ok C → Tells (σ ++ τ) ok (whole w C)
  join_tells s t A B C dA dB ok j = record {
    runs = λ e. whole_joined w side s.fair t.fair A B dA dB (j.runs e);
    stuck = λ e. join_stuck w side s.fair t.fair A B dA dB (j.stuck e);
  }
