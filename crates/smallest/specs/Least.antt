-- The left part of an effect in parts, closed: its first row tells the smallest readings.
use Rattle.std.specs.Prelude.{◌≡◌, refl, ◌↔◌, Bool, true, false, List, ℕ, ◌+◌, ◌*◌, ◌-◌, ◌/◌, ◌^◌, ◌≤◌, ◌<◌, length, get_or}
use Rattle.std.proofs.Common.{sym, ap, ◌∙◌, arith, mul-le-mul_right}
use Rattle.std.proofs.Math.Decide.{ℕ_discrete}
use Rattle.table.specs.Step.{Step}
use Rattle.runs.specs.Steps.{steps_old}
use Rattle.zones.specs.Bound.{Bound, none, some, half, weak_zero, ◌⊑◌, ⊑_trans}
use Rattle.zones.specs.Values.{sat_mono}
use Rattle.zones.specs.Matrix.{Matrix, Solves, Solution}
use Rattle.zones.specs.Closure.{Closure, no_others}
use Rattle.zones.specs.Extend.{solve}
use Rattle.zones.specs.Codes.{BIAS, NONE, ZERO, bound, bound_some, bound_none, Coded, coded_wider, within_coded}
use Rattle.zones.specs.Cells.{cell, matrix, Ranged}
use Rattle.zones.specs.InParts.{parts_of, in_parts, parts_solves, parts_solution, AllWeak, parts_weak, weak_same}
use Rattle.zones.specs.InParts.{pivots_weak, back_of, latest, latest_at, latest_first, latest_solves, latest_least}
use Rattle.basics.specs.Places.{written, KeptFrom, length_written, at_written, drop_written}
use Rattle.closing.specs.Closing.{Closing, closing_closure, closing_fails}
use Rattle.effects.specs.Describes.{Describes, tightest}
use Rattle.effects.specs.Range.{left_range, range_left}
use Rattle.effects.specs.Tells.{Sized}
use Rattle.effects.specs.Whole.{Side, whole, whole_before}
use Rattle.effects.specs.Stored.{EffectOf}
use Rattle.effects.specs.WholeLeft.{SmallestOf}
use Rattle.gluing.specs.Laying.{code, effect_at}
use Rattle.smallest.specs.Codes.{most, parts_under, parts_over, parts_coded, PartsTo}

-- The smallest readings that the left part of M allows are in the first w - 1 places of l', that of clock j at place j - 1, and the rest is
-- that of l.
pub record Written (w : ℕ) (M : Matrix) (l l' : List ℕ) : Type 0 where
  pub smallest : SmallestOf w M (λ j. get_or l' (j - 1) 0)
  pub kept : KeptFrom (w - 1) l l'

-- Only the readings of clocks 1 to w - 1 matter.
smallest_same : {w : ℕ} {M : Matrix} (r s : ℕ → ℕ) → ((a : ℕ) → 0 < a → a < w → r a ≡ s a) → SmallestOf w M r → SmallestOf w M s
smallest_same r s e m = record {
  solves = λ u h. m.solves u (λ a p l. omega (arith, e a p l, h a p l));
  least = λ x h a p l k. omega (arith, e a p l, m.least x h a p l k);
}

parts_low : (Q : ℕ) (a : Bound) → a ⊑ weak_zero → parts_of Q a ⊑ weak_zero
parts_low Q none h = absurd h.le
parts_low Q (some e z) h = record { le = omega (arith, mul-le-mul_right Q (less h)) }
  where
    less : some e z ⊑ weak_zero → half e ≤ z
    less k = omega (arith, k.le)

module _ {w : ℕ} (side : Side w) {at : ℕ} {m : List ℕ} {σ : List Step} (here : EffectOf w at 14 m σ) where
  abbrev s : Sized σ
  s = here.sized

  abbrev d : Describes σ (whole w (effect_at m at))
  d = here.describes

  abbrev M : Matrix
  M = effect_at m at

  -- Its left part is in range,
  pub left_coded : (a b : ℕ) → a < w → b < w → Coded most (code m at a b)
  left_coded a b ha hb =
      coded_wider left_range most (code m at a b) (omega arith)
      (within_coded left_range (code m at a b)
      (rw (whole_before w side M a b ha hb) at
      (range_left σ s.fair s.some (whole w M) d a b (omega (arith, side.1)) (omega (arith, side.1)))))

  -- has a solution,
  left_solution : Solution w M
  left_solution =
      let (P, p, (x, t)) = solve 14 (whole w M) d.closed in (
        P,
        p,
        (
          x,
          λ a b ha hb.
              rw (whole_before w side M a b ha hb) at (t a b (omega (arith, side.1)) (omega (arith, side.1))),
        ),
      )

  -- and no clock was last reset after the start.
  left_low : (a : ℕ) → a < w → M 0 a ⊑ weak_zero
  left_low a ha =
      rw (whole_before w side M 0 a side.0 ha) at
      (tightest d 0 a (omega arith) (omega (arith, side.1)) weak_zero (λ P x p r.
      record { holds = omega (arith, steps_old P σ s.some r a (omega (arith, side.1))) }))

  module _ {l : List ℕ} (t : PartsTo w w at m l) where
    -- In parts it may be closed,
    pub parts_ranged : Ranged (2 ^ 52) w l
    parts_ranged = record {
      full = t.full;
      coded = λ a b ha hb. rw (t.done a b ha hb) (parts_coded w (code m at a b) side.1 (left_coded a b ha hb));
    }

    under : (a b : ℕ) → a < w → b < w → matrix l a b ⊑ in_parts w M a b
    unfolding in_parts
    under a b ha hb = rw (t.done a b ha hb) (parts_under w (code m at a b) side.1 (left_coded a b ha hb))

    over : (a b : ℕ) → a < w → b < w → in_parts w M a b ⊑ matrix l a b
    unfolding in_parts
    over a b ha hb = rw (t.done a b ha hb) (parts_over w (code m at a b) side.1 (left_coded a b ha hb))

    weak : AllWeak w (matrix l)
    weak a b ha hb =
        weak_same (in_parts w M a b) (matrix l a b) (over a b ha hb) (under a b ha hb) (parts_weak w w M a b ha hb)

    low : (a : ℕ) → a < w → matrix l 0 a ⊑ weak_zero
    unfolding in_parts
    low a ha = ⊑_trans (under 0 a side.0 ha) (parts_low w (M 0 a) (left_low a ha))

    -- It has the same solutions in w parts, and has one.
    same_solves : (x : ℕ → ℕ) → Solves w 1 (matrix l) x ↔ Solves w w M x
    same_solves x = (
      (λ h. (parts_solves w w M x).0 (λ a b ha hb. sat_mono 1 (x a) (x b) (omega arith) (under a b ha hb) (h a b ha hb))),
      λ h a b ha hb. sat_mono 1 (x a) (x b) (omega arith) (over a b ha hb) ((parts_solves w w M x).1 h a b ha hb),
    )

    solution : Solution w (matrix l)
    solution =
        let (P, p, (x, h)) = parts_solution w M left_solution in
        (P, p, (x, λ a b ha hb. sat_mono P (x a) (x b) p (over a b ha hb) (h a b ha hb)))

    module _ {z : List ℕ} {ok : Bool} (c : Closing w 0 l z ok) where
      -- So closing goes through,
      closed_through : (b : Bool) → ok ≡ b → ok ≡ true
      closed_through true e = e
      closed_through false e = absurd (closing_fails c e solution)

      C : Closure w (matrix l) (matrix z)
      C = closing_closure c (no_others w (matrix l)) (closed_through ok refl)

      row_low : (a : ℕ) → a < w → matrix z 0 a ⊑ weak_zero
      row_low a ha = ⊑_trans (C.low 0 a side.0 ha) (low a ha)

      -- and the first row tells the readings.
      pub smallest_readings : SmallestOf w M (λ a. back_of (matrix z 0 a))
      smallest_readings = record { solves = solves; least = least }
        where
          all_weak : AllWeak w (matrix z)
          all_weak = pivots_weak (c.all (closed_through ok refl)) weak

          solves : (u : ℕ → ℕ) → ((a : ℕ) → 0 < a → a < w → u a + back_of (matrix z 0 a) ≡ u 0) → Solves w w M u
          solves u h a b ha hb =
              rw (at_latest a ha (ℕ_discrete a 0), at_latest b hb (ℕ_discrete b 0))
              ((same_solves L).0 (C.back 1 L (omega arith) all) a b ha hb)
            where
              L : ℕ → ℕ
              L = latest w (matrix z) C.closed all_weak side.0 row_low (u 0)

              fits : (a : ℕ) → a < w → Dec (a ≡ 0) → back_of (matrix z 0 a) ≤ u 0
              fits a ha (yes e) = rw e (first (matrix z 0 0) (C.closed.diag 0 side.0))
                where
                  first : (e : Bound) → weak_zero ⊑ e → back_of e ≤ u 0
                  first none q = omega arith
                  first (some e y) q = omega (arith, q.le)
              fits a ha (no e) = omega (arith, h a (omega arith) ha)

              all : Solves w 1 (matrix z) L
              all = latest_solves w (matrix z) C.closed all_weak side.0 row_low (u 0)
                  (λ a ha. fits a ha (ℕ_discrete a 0))

              at_latest : (a : ℕ) → a < w → Dec (a ≡ 0) → u a ≡ L a
              at_latest a ha (yes e) = rw e (sym (latest_first w (matrix z) C.closed all_weak side.0 row_low (u 0)))
              at_latest a ha (no e) =
                  omega (
                    arith,
                    latest_at w (matrix z) C.closed all_weak side.0 row_low (u 0) a,
                    h a (omega arith) ha,
                  )

          least : (x : ℕ → ℕ) → Solves w w M x → (a : ℕ) → 0 < a → a < w → x a ≤ x 0 → back_of (matrix z 0 a) + x a ≤ x 0
          least x h a p ha l =
              latest_least w (matrix z) x (C.keeps 1 x (omega arith) ((same_solves x).1 h)) a side.0 ha l

      -- Each is read off its code, which lies between these.
      pub reading_code : (a : ℕ) → a < w → (back_of (matrix z 0 a) ≡ BIAS - cell z 0 a / 2) × (cell z 0 a ≤ ZERO)
      reading_code a ha = go (ℕ_discrete (cell z 0 a) NONE) (row_low a ha)
        where
          go : Dec (cell z 0 a ≡ NONE) → bound (cell z 0 a) ⊑ weak_zero
              → (back_of (bound (cell z 0 a)) ≡ BIAS - cell z 0 a / 2) × (cell z 0 a ≤ ZERO)
          go (yes e) h = absurd (rw (bound_none _ e) at h).le
          go (no e) h =
              let k : some (cell z 0 a) BIAS ⊑ weak_zero = rw (bound_some _ e) at h in
              rw (bound_some _ e) (refl, omega (arith, k.le))

      code_is : (a : ℕ) → a < w → back_of (matrix z 0 a) ≡ BIAS - get_or z a 0 / 2
      code_is a h = (reading_code a h).0 ∙ ap (λ k. BIAS - get_or z k 0 / 2) (omega arith)

      -- So what is read off is what is asked.
      pub readings_written : (x y : List ℕ) → w ≤ length x + 1
          → y ≡ written (λ j. BIAS - get_or z (j + 1) 0 / 2) (w - 1) x → Written w M x y
      readings_written x y l e = record {
        smallest = smallest_same (λ a. back_of (matrix z 0 a)) (λ j. get_or y (j - 1) 0) same smallest_readings;
        kept = record { size = rw e (length_written _ (w - 1) x (omega arith)); rest = rw e (drop_written _ (w - 1) x) };
      }
        where
          same : (a : ℕ) → 0 < a → a < w → back_of (matrix z 0 a) ≡ get_or y (a - 1) 0
          same a p h =
              let r : a - 1 + 1 ≡ a = omega arith in
              let there : get_or y (a - 1) 0 ≡ BIAS - get_or z (a - 1 + 1) 0 / 2 =
              rw e (at_written (λ j. BIAS - get_or z (j + 1) 0 / 2) (w - 1) x (a - 1) (omega arith)) in
              code_is a h ∙ sym (rw r at there)

      pub codes_low : (a : ℕ) → a < w → get_or z a 0 ≤ ZERO
      codes_low a h = let q : 0 * 21 + a ≡ a = omega arith in rw q at (reading_code a h).1
