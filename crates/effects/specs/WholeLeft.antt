-- The left part of an effect without the clocks that a table does not have: these may have been last reset at any time before the start.
use Rattle.std.specs.Prelude.{◌≡◌, ◌↔◌, List, ℕ, ◌+◌, ◌-◌, ◌≤◌, ◌<◌}
use Rattle.std.proofs.Common.{ap, inl, inr, arith}
use Rattle.table.specs.Step.{Step, Fairs}
use Rattle.runs.specs.Steps.{Config}
use Rattle.runs.specs.RunSteps.{Starting, starting_old, origin, origin_starting}
use Rattle.runs.specs.Lasting.{Lasting, Smallest}
use Rattle.zones.specs.Matrix.{Matrix, Solves, Flat}
use Rattle.effects.specs.Sides.{Naming, Kept, filled_is}
use Rattle.effects.specs.Whole.{Side, whole, place, back, Placed, placed, back_left}
use Rattle.effects.specs.Steady.{Steady, lasting_lasts}

module _ (w : ℕ) (side : Side w) where
  place_same : (a b : ℕ) → Placed w a b → a < 7 → b ≡ a
  place_same a b (inl h) l = h.1
  place_same a b (inr h) l = omega arith

  naming_left : Naming w 7 w (place w) (back w)
  naming_left = record {
    f_low = λ a l k. omega (arith, place_same a (place w a) (placed w a) l);
    g_low = λ v l. omega (arith, back_left w side v l, side.1);
    g_on = λ v l. omega (arith, back_left w side v l, side.1);
    f_g = λ v l. rw (back_left w side v l) (place_same v (place w v) (placed w v) (omega (arith, side.1)));
    g_f = λ a l k.
        rw (place_same a (place w a) (placed w a) l) (back_left w side a (omega arith));
    zero_on = side.0;
    f_zero = place_same 0 (place w 0) (placed w 0) (omega arith);
    some = side.0;
  }

  -- Its solutions are those among its own vertices, with the other clocks not last reset after the start.
  pub whole_left_is : (M : Matrix) → Flat w M → (P : ℕ) (u : Config) → 0 < P
      → Solves 7 P (whole w M) u ↔ (Solves w P M u × ((a : ℕ) → a < 7 → w ≤ a → u a ≤ u 0))
  whole_left_is M flat P u p = (
    (λ s. let t = is.0 s in (own t.0, λ a l h. t.1.low a l (omega arith))),
    λ s. is.1 (named s.0, kept s.1),
  )
    where
      is : Solves 7 P (whole w M) u ↔ (Solves w P M (λ v. u (back w v)) × Kept w 7 u)
      is = filled_is naming_left M flat P u p

      own : Solves w P M (λ v. u (back w v)) → Solves w P M u
      own s a b ha hb = rw (back_left w side a ha, back_left w side b hb) at (s a b ha hb)

      named : Solves w P M u → Solves w P M (λ v. u (back w v))
      named s a b ha hb = rw (back_left w side a ha, back_left w side b hb) (s a b ha hb)

      kept : ((a : ℕ) → a < 7 → w ≤ a → u a ≤ u 0) → Kept w 7 u
      kept h = record {
        same = λ a b ha hb k e. ap u (omega arith);
        low = λ a ha k. h a ha (omega arith);
      }

-- The readings s of clocks 1 to w - 1, in w parts to a tick, solve the left part of M, and no smaller reading of any of them does.
pub record SmallestOf (w : ℕ) (M : Matrix) (s : ℕ → ℕ) : Type 0 where
  pub solves : (u : ℕ → ℕ) → ((a : ℕ) → 0 < a → a < w → u a + s a ≡ u 0) → Solves w w M u
  pub least : (x : ℕ → ℕ) → Solves w w M x → (a : ℕ) → 0 < a → a < w → x a ≤ x 0 → s a + x a ≤ x 0

-- Where the left part is settled, they are the smallest readings from which every number of rounds runs.
pub steady_smallest : (n : ℕ) → Side (n + 1) → (τ : List Step) → Fairs τ → (M : Matrix) → Flat (n + 1) M
    → Steady τ (whole (n + 1) M) → (s : ℕ → ℕ) → SmallestOf (n + 1) M s → Smallest n τ s
steady_smallest n side τ f M flat t s m = record { lasting = lasting; least = least }
  where
    w : ℕ
    w = n + 1

    lasting : Lasting w τ s
    lasting = (lasting_lasts w τ f s (origin s) start).1 ((t.is w (origin s) side.0).0
        ((whole_left_is w side M flat w (origin s) side.0).1 (
          m.solves (origin s) (λ a p l. start a p (omega (arith, side.1))),
          λ a l h. starting_old s (origin s) start a l,
        )))
      where
        start : Starting s (origin s)
        start = origin_starting s

    least : (r : ℕ → ℕ) → Lasting w τ r → (j : ℕ) → 0 < j → j ≤ n → s j ≤ r j
    least r h j p l =
        let start = origin_starting r in
        let v = (t.is w (origin r) side.0).1 ((lasting_lasts w τ f r (origin r) start).0 h) in
        let k = m.least (origin r) ((whole_left_is w side M flat w (origin r) side.0).0 v).0 j p (omega arith)
        (starting_old r (origin r) start j (omega (arith, side.1))) in
        omega (arith, k, start j p (omega (arith, side.1)))
