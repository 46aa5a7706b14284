-- For the last resets before the start the guards from below of the first round are enough. A clock that is ever reset is reset in every
-- round, so later guards on it ask nothing of them; and of a clock that never is, the same guard of a later round asks for less, since
-- moments never decrease.
use Rattle.std.specs.Prelude.{◌≡◌, ◌⊎◌, ℕ, suc, ◌+◌, ◌%◌, ◌≤◌, ◌<◌, get_or}
use Rattle.std.proofs.Math.Path.{ap}
use Rattle.std.proofs.Common.{inl, inr, arith, mod-lt}
use Rattle.std.proofs.Math.Bool.{false}
use mathlib.Core.List.{List, [], ◌∷◌, Memᴰ}
use Rattle.std.proofs.Math.Nat.{mod-eq_of_lt, mod-le}
use Rattle.std.proofs.Math.Decide.{dec_lt}
use Rattle.runs.specs.declared.Demand.{Demand}
use Rattle.runs.specs.Demand.{plus}
use Rattle.sides.specs.Sides.{none as noKey}
use Rattle.sides.specs.Tight.{key_demand}
use Rattle.last_resets.specs.Distance.{last_of, last_none}
use Rattle.sweeps.specs.Order.{cell, side_of, forth_at, forth_of}
use Rattle.sweeps.specs.Covered.{forth_among}
use Rattle.sweeps.specs.Ends.{OfClock, side_clock, clock_side, last_past}
use Rattle.basics.specs.Places.{at}
use Rattle.paths.specs.Constraint.{Constraint, Holds}
use Rattle.checks.specs.InParts.{edge, edges}
use Rattle.lowering.specs.Lowered.{none}
use Rattle.lowering.specs.Outcome.{Settled}
use Rattle.latest.specs.Steps.{forth_edges}

-- the same guard of a later step asks for less
later_less : (key z i m : ℕ) (x : ℕ → ℕ) → x (suc i) ≤ x (suc m) → Holds (edge (key_demand false key z (suc i))) x
    → Holds (edge (key_demand false key z (suc m))) x
unfolding key_demand
later_less key z i m x l h = omega arith

module _ (low far : List ℕ) (L n K : ℕ) (some : 0 < L) (near : (p : ℕ) → get_or far p 0 ≤ L) (l : List ℕ)
    (first : (i : ℕ) → i < L → Settled (edges (forth_at low far L n K i)) l)
    (rises : (i m : ℕ) → i ≤ m → m ≤ K → at l i ≤ at l m) where
  module _ (i : ℕ) (from : L ≤ i) (last : i < K) (j : ℕ) (key : get_or low (cell (i % L) j) 0 < noKey) (above : 1 ≤ j) (few : j < 1 + n) where
    abbrev s : ℕ
    s = i % L

    abbrev k : ℕ
    k = get_or low (cell s j) 0

    abbrev d : ℕ
    d = get_or far (cell s j) 0

    -- the guard in the first round
    early : d ≡ 0 → at l (suc s) < none → Holds (edge (key_demand false k (last_of d K s j) (suc s))) (at l)
    unfolding key_demand
    early e b =
        let r : s % L ≡ s = mod-eq_of_lt (mod-lt i some) in
        let m : Memᴰ (key_demand false k (last_of d K s j) (suc s)) (side_of false low far K (s % L) s 1 n) =
        rw r (clock_side false low far K s s 1 n j above few key) in
        first s (mod-lt i some) (edge (key_demand false k (last_of d K s j) (suc s)))
        (mathlib.Core.List.Memᴰ.map edge (mathlib.Core.List.Memᴰ.append_right (plus (suc s) s 0 false ∷ []) m)) b

    of_clock : K < last_of d K i j → at l (suc i) < none → Holds (edge (key_demand false k (last_of d K i j) (suc i))) (at l)
    of_clock past b = go (dec_lt 0 d)
      where
        rise : at l (suc s) ≤ at l (suc i)
        rise = rises (suc s) (suc i) (omega (arith, mod-le i L)) (omega arith)

        go : Dec (0 < d) → Holds (edge (key_demand false k (last_of d K i j) (suc i))) (at l)
        go (yes p) = absurd (omega (arith, last_past d K i j p (omega (arith, near (cell s j)))))
        go (no p) =
            let e : d ≡ 0 = omega arith in
            rw (last_none d K i j e)
            (later_less k (K + j) s i (at l) rise (rw (last_none d K s j e) at (early e (omega (arith, rise)))))

  at_step : (i : ℕ) → L ≤ i → i < K → (d : Demand)
      → Memᴰ d (plus (suc i) i 0 false ∷ []) ⊎ Memᴰ d (side_of false low far K (i % L) i 1 n)
      → K < d.to → at l d.from < none → Holds (edge d) (at l)
  unfolding key_demand
  at_step i from last d (inl m) past = one (mathlib.Core.List.Memᴰ.cases_cons m)
    where
      one : (d ≡ plus (suc i) i 0 false) ⊎ Memᴰ d [] → at l d.from < none → Holds (edge d) (at l)
      one (inl e) = absurd (omega (arith, ap (λ (x : Demand). x.to) e))
      one (inr x) = absurd (mathlib.Core.List.Memᴰ.not-nil x)
  at_step i from last d (inr m) past = own (side_clock false low far K (i % L) i 1 n d m) past
    where
      own : OfClock false low far K (i % L) i 1 n d → K < d.to → at l d.from < none → Holds (edge d) (at l)
      own c = rw c.is (of_clock i from last c.clock c.key c.first c.last)

  -- All guards from below hold that ask something of a last reset before the start.
  pub first_round : (c : Constraint) → Memᴰ c (forth_edges low far L n K) → K < c.to → at l c.from < none → Holds c (at l)
  unfolding forth_edges
  first_round c m = go (mathlib.Core.List.Memᴰ.of_map edge (forth_of low far L n K 0 K) m)
    where
      go : (d : Demand) × Memᴰ d (forth_of low far L n K 0 K) × (edge d ≡ c) → K < c.to → at l c.from < none → Holds c (at l)
      go d =
          let a = forth_among low far L n K 0 K d.0 d.1 in
          rw (← d.2) (by_step a.step (omega (arith, a.last)) a.member (dec_lt a.step L))
        where
          by_step : (i : ℕ) → i < K → Memᴰ d.0 (forth_at low far L n K i) → Dec (i < L)
              → K < d.0.to → at l d.0.from < none → Holds (edge d.0) (at l)
          by_step i w k (yes q) past = first i q (edge d.0) (mathlib.Core.List.Memᴰ.map edge k)
          by_step i w k (no q) past = at_step i (omega arith) w d.0 (mathlib.Core.List.Memᴰ.append_cases (plus (suc i) i 0 false ∷ []) k) past
