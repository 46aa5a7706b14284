-- The row from one demand or guard to the next, and from step to step.
use Rattle.std.specs.Prelude.{◌≡◌, false, List, [], ◌∷◌, ◌++◌, ℤ, length, drop}
use Rattle.std.proofs.Common.{sym, ◌∙◌, subst, append_assoc, arith}
use Rattle.std.proofs.Math.Path.{ap}
use Prim.Native.Nat.{ℕ, suc, ◌+◌, ◌*◌, ◌≤◌, ◌<◌}
use Rattle.std.proofs.Math.Decide.{dec_lt}
use Rattle.std.proofs.Math.Numerals.{add-one}
use Rattle.std.proofs.Math.ListN.{get_or}
use Rattle.table.specs.Step.{step_at, steps_of, up_of, down_of, end_of, Good}
use Rattle.table.specs.declared.Guard.{Guard}
use Rattle.table.specs.declared.Table.{Table}
use Rattle.runs.specs.Run.{copies, zeroed}
use Rattle.runs.specs.declared.Demand.{Demand}
use Rattle.runs.specs.declared.Start.{Start}
use Rattle.runs.specs.Demand.{plus, guard_demands, demands_at, steps_demands}
use Rattle.runs.specs.DemandOrder.{steps_demands_cons, steps_demands_same}
use Rattle.constraints.specs.Pieces.{reset_of, following_of, following_round, following_on}
use Rattle.constraints.specs.Demands.{demands_of, guards_from}
use Rattle.constraints.specs.Guards.{guards_more, guards_end_lem}
use Rattle.constraints.specs.Resets.{length_reset, reset_same}
use Rattle.table.specs.Steps.{guard_fair}
use Rattle.constraints.specs.Rounds.{rounds_drop}
use Rattle.constraints.specs.Sized.{Sized}
use Rattle.cells.specs.Writing.{Fits, Wrote, Left, left_all, fits_front, left_done, left_next, left_as}
use Rattle.writing.specs.Passed.{starts_due, steps_due, guards_due, later_due, Passed, Inside}
use Rattle.writing.specs.Ends.{rounds_fair}

-- ---- the guards of a step, one by one
module _ {t : Table} (good : Good t) {s i : ℕ} {z : List ℕ} where
  -- none is written yet
  pub inside_first : {row : List ℤ} {q : ℕ} → s < t.steps → length z ≡ 7 → Fits row q (guards_due t s i z (get_or t.ends s 0))
      → Inside t row row q q i s (get_or t.ends s 0) z
  inside_first b e f =
      record { step = b; resets = e; first = omega arith; last = good.order s b; left = left_all f }

  module _ {old row : List ℤ} {o q g : ℕ} (p : Inside t old row o q i s g z) where
    -- a guard more
    module _ (d : Guard) (l : g < get_or t.ends (s + 1) 0) where
      pub guard_clock : (get_or t.guards g d).clock < 7
      guard_clock = (guard_fair t s g d good p.step p.first l).last

      pub guard_second : (get_or t.guards g d).second < 7
      guard_second = (guard_fair t s g d good p.step p.first l).second

      abbrev here : List Demand
      here = demands_at (get_or t.guards g d) (i + 1) (λ j. get_or z j 0)

      guard_left : Left old o (guards_due t s i z (get_or t.ends s 0)) row q (here ++ guards_due t s i z (g + 1))
      guard_left =
          let room = good.room (s + 1) (omega (arith, p.step)) in
          left_as (guards_more t s (i + 1) z g d l (omega (arith, room, good.guards_size))) p.left

      -- the same, with the moment e that the clock is compared with
      abbrev made : ℕ → List Demand
      made e =
          guard_demands (get_or t.guards g d).relation (up_of (get_or t.guards g d)) (down_of (get_or t.guards g d))
          (get_or z (get_or t.guards g d).clock 0) e

      here_is : (e : ℕ) → e ≡ end_of (get_or t.guards g d).second (i + 1) (λ j. get_or z j 0) → here ≡ made e
      here_is e h = ap made (sym h)

      pub guard_fits : (e : ℕ) → e ≡ end_of (get_or t.guards g d).second (i + 1) (λ j. get_or z j 0) → Fits row q (made e)
      guard_fits e h = subst (Fits row q) (here_is e h) (fits_front here _ guard_left.fits)

      pub passed_guard : (e : ℕ) → e ≡ end_of (get_or t.guards g d).second (i + 1) (λ j. get_or z j 0)
          → {row' : List ℤ} {q' : ℕ} → Wrote row q (made e) row' q' → Inside t old row' o q' i s (g + 1) z
      passed_guard e h {row'} {q'} u =
          let w = subst (λ ds. Wrote row q ds row' q') (sym (here_is e h)) u in
          record {
            step = p.step;
            resets = p.resets;
            first = omega (arith, p.first);
            last = omega arith;
            left = left_next here _ guard_left w;
          }

    -- all are written
    pub passed_guards : get_or t.ends (s + 1) 0 ≤ g → Wrote old o (guards_due t s i z (get_or t.ends s 0)) row q
    passed_guards b =
        let n : g ≡ get_or t.ends (s + 1) 0 = omega (arith, p.last) in
        left_done (left_as (ap (guards_due t s i z) n ∙ guards_end_lem t s (i + 1) z) p.left)

-- ---- the steps, one by one
module _ {t : Table} {k : ℕ} (ready : Sized t k) {v : Start} {old row : List ℤ} {q i s : ℕ} {z : List ℕ}
    (p : Passed t v k old row q i s z) (l : i < k * t.steps) where
  -- a step begins: its order demand, its guards, and what comes after it
  orders : List Demand
  orders = plus (i + 1) i 0 false ∷ []

  abbrev guards : List Demand
  guards = guards_due t s i z (get_or t.ends s 0)

  one_step : steps_due t k i z ++ starts_due t v k
      ≡ orders ++ (guards ++ later_due t v k s i z)
  unfolding orders guards_from step_at
  one_step =
      let y : ℕ → ℕ = λ j. get_or z j 0 in
      ap (λ τ. steps_demands τ i y ++ starts_due t v k) (rounds_drop t k p.round s i p.step p.steps l)
      ∙ ap (λ ds. ds ++ starts_due t v k) (steps_demands_cons (step_at t s) (drop (suc i) (copies (steps_of t) k)) i y)
      ∙ rw (← add-one i)
      (append_assoc (orders ++ guards) _ (starts_due t v k)
      ∙ ap (λ ds. (orders ++ guards) ++ (ds ++ starts_due t v k))
      (steps_demands_same (drop (i + 1) (copies (steps_of t) k)) (i + 1) (zeroed (step_at t s) (i + 1) y)
      (λ j. get_or (reset_of t.resets s (i + 1) z) j 0) (rounds_fair ready (i + 1)) (reset_same t s (i + 1) z p.resets)))

  order_left : Left old 0 (demands_of t v k) row q
      (orders ++ (guards ++ later_due t v k s i z))
  order_left = left_as one_step p.left

  pub order_fits : Fits row q (plus (i + 1) i 0 false ∷ [])
  unfolding orders
  order_fits = fits_front orders _ order_left.fits

  module _ {row' : List ℤ} {q' : ℕ} (w : Wrote row q (plus (i + 1) i 0 false ∷ []) row' q') where
    guards_left : Left old 0 (demands_of t v k) row' q' (guards ++ later_due t v k s i z)
    unfolding orders
    guards_left = left_next orders _ order_left w

    pub guards_fit : Fits row' q' (guards_due t s i z (get_or t.ends s 0))
    guards_fit = fits_front guards _ guards_left.fits

    -- the step is past
    pub passed_step : {row'' : List ℤ} {q'' s' : ℕ} {z' : List ℕ} → Wrote row' q' (guards_due t s i z (get_or t.ends s 0)) row'' q''
        → z' ≡ reset_of t.resets s (i + 1) z → s' ≡ following_of s t.steps → Passed t v k old row'' q'' (i + 1) s' z'
    passed_step {row''} {q''} {s'} {z'} u e f = go (dec_lt (s + 1) t.steps)
      where
        size : length z' ≡ 7
        size = ap length e ∙ length_reset t.resets s (i + 1) z 7 ∙ p.resets

        left : Left old 0 (demands_of t v k) row'' q'' (steps_due t k (i + 1) z' ++ starts_due t v k)
        left =
            left_as (ap (λ y. steps_due t k (i + 1) y ++ starts_due t v k) (sym e)) (left_next guards _ guards_left u)

        go : Dec (s + 1 < t.steps) → Passed t v k old row'' q'' (i + 1) s' z'
        go (yes a) =
            let n : s' ≡ s + 1 = f ∙ following_on s t.steps (omega arith) in
            record {
              round = p.round;
              step = omega arith;
              steps = omega (arith, p.steps);
              few = omega arith;
              resets = size;
              left = left;
            }
        go (no a) =
            let m : s + 1 ≡ t.steps = omega (arith, p.step) in
            let n : s' ≡ 0 = f ∙ following_round s t.steps m in
            record {
              round = p.round + 1;
              step = omega (arith, p.step);
              steps = omega (arith, p.steps);
              few = omega arith;
              resets = size;
              left = left;
            }
