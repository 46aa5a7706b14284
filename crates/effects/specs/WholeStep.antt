-- The effect of one step, made without the clocks that are left out.
use Rattle.std.specs.Prelude.{◌≡◌, ◌↔◌, Bool, true, false, ℕ, zero, suc, ◌+◌, ◌%◌, ◌-◌, ◌≤◌, ◌<◌}
use Rattle.std.proofs.Common.{ap, sym, ◌∙◌, arith}
use mathlib.Core.List.{[], ◌∷◌, Memᴰ}
use Rattle.std.proofs.Math.Decide.{dec_lt}
use Rattle.table.specs.Step.{Step, resets, end_of, Fair}
use Rattle.table.specs.declared.Guard.{Guard}
use Rattle.runs.specs.Satisfies.{Satisfies}
use Rattle.runs.specs.Steps.{move, end_equal}
use Rattle.zones.specs.Matrix.{Matrix}
use Rattle.zones.specs.Closure.{Canonical, canonical_for}
use Rattle.effects.specs.Describes.{Describes, NoRun}
use Rattle.effects.specs.Single.{Moves, single, single_fails}
use Rattle.effects.specs.StepDemands.{Parts, Uses, step_demands, step_is}
use Rattle.effects.specs.Sides.{On, Kept}
use Rattle.effects.specs.Sides.{filled_canonical}
use Rattle.effects.specs.Whole.{Side, back, whole, naming, back_left, back_right}

module _ (w : ℕ) (side : Side w) (s : Step) (u : Uses w s) where
  -- What the constraints of w vertices say, with the clocks left out kept, is that the step is a move.
  moves_is : (P : ℕ) (x : ℕ → ℕ) → (Parts w P (λ v. x (back w v)) s × Kept w 14 x) ↔ Moves s P x
  moves_is P x = (λ h. there h.0 h.1, λ m. (parts m, kept m))
    where
      left : (j : ℕ) → j < w → x (back w j) ≡ x j
      left j l = ap x (back_left w side j l)

      right : (j : ℕ) → x (back w (w + j)) ≡ x (7 + j)
      right j = ap x (back_right w side j)

      now : x (back w w) ≡ x 7
      now = let e : w + 0 ≡ w = omega arith in rw e at (right 0)

      end : (g : Guard) → Memᴰ g s.guards → end_of g.second (x (back w w)) (λ v. x (back w v)) ≡ end_of g.second (x 7) x
      end g i = end_equal g.second _ _ (λ v. x (back w v)) x now (λ p. left g.second (u.guards g i).1)

      there : Parts w P (λ v. x (back w v)) s → Kept w 14 x → Moves s P x
      there h k = record {
        later = omega (arith, h.later, left 0 side.0, now);
        old = λ j l. old j l (dec_lt j w);
        guarded = λ g i. rw (left g.clock (u.guards g i).0, end g i) at (h.guarded g i);
        reset = λ j p l e. reset j p l e (dec_lt j w);
        kept = λ j p l e. kept j p l e (dec_lt j w);
      }
        where
          old : (j : ℕ) → j < 7 → Dec (j < w) → x j ≤ x 0
          old zero l d = omega arith
          old (suc j) l (yes i) =
              omega (arith, h.old (suc j) (omega arith) i, left (suc j) i, left 0 side.0)
          old (suc j) l (no i) = k.low (suc j) (omega arith) (omega arith)

          clash : (b : Bool) → b ≡ true → b ≡ false → ⊥
          clash b p q = let z : ◌≡◌ {A = ℕ} 0 1 = cc in omega arith

          reset : (j : ℕ) → 0 < j → j < 7 → resets s j ≡ true → Dec (j < w) → x (7 + j) ≡ x 7
          reset j p l e (yes i) = omega (arith, h.reset j p i e, right j, now)
          reset j p l e (no i) = absurd (clash (resets s j) e (u.resets j (omega arith) l))

          kept : (j : ℕ) → 0 < j → j < 7 → resets s j ≡ false → Dec (j < w) → x (7 + j) ≡ x j
          kept j p l e (yes i) = omega (arith, h.kept j p i e, right j, left j i)
          kept j p l e (no i) = k.same (7 + j) j (omega arith) (omega arith) (omega arith) (omega arith)

      parts : Moves s P x → Parts w P (λ v. x (back w v)) s
      parts m = record {
        later = omega (arith, m.later, left 0 side.0, now);
        old = λ j p l. omega (arith, m.old j (omega arith), left j l, left 0 side.0);
        guarded = λ g i. rw (left g.clock (u.guards g i).0, end g i) (m.guarded g i);
        reset = λ j p l e. omega (arith, m.reset j p (omega arith) e, right j, now);
        kept = λ j p l e. omega (arith, m.kept j p (omega arith) e, right j, left j l);
      }

      kept : Moves s P x → Kept w 14 x
      kept m = record { same = λ a b ha hb k e. same a b ha hb k e (dec_lt a 7) (dec_lt b 7); low = λ a ha k. low a ha k (dec_lt a 7) }
        where
          stays : (j : ℕ) → ¬ (j < w) → j < 7 → x (7 + j) ≡ x j
          stays j k l = m.kept j (omega arith) l (u.resets j (omega arith) l)

          at : (a : ℕ) → 7 ≤ a → a < 14 → ¬ On w a → x a ≡ x (a - 7)
          at a l h k = let e : 7 + (a - 7) ≡ a = omega arith in rw e at (stays (a - 7) (omega arith) (omega arith))

          same : (a b : ℕ) → a < 14 → b < 14 → ¬ On w a → a % 7 ≡ b % 7 → Dec (a < 7) → Dec (b < 7) → x a ≡ x b
          same a b ha hb k e (yes i) (yes j) = ap x (omega arith)
          same a b ha hb k e (yes i) (no j) =
              let q : b - 7 ≡ a = omega arith in sym (at b (omega arith) hb (omega arith) ∙ ap x q)
          same a b ha hb k e (no i) (yes j) =
              let q : a - 7 ≡ b = omega arith in at a (omega arith) ha k ∙ ap x q
          same a b ha hb k e (no i) (no j) = ap x (omega arith)

          low : (a : ℕ) → a < 14 → ¬ On w a → Dec (a < 7) → x a ≤ x 0
          low a h k (yes i) = m.old a i
          low a h k (no i) = omega (arith, at a (omega arith) h k, m.old (a - 7) (omega arith))

  module _ (f : Fair s) where
    -- The canonical matrix of the step's constraints is its effect;
    pub whole_step : {C : Matrix} → Canonical (w + w) C (λ P x. Satisfies P x (step_demands w s))
        → Describes (s ∷ []) (whole w C)
    whole_step {C} c =
        single s f
        (canonical_for (Moves s) (filled_canonical (naming w side) C (canonical_for (λ P x. Parts w P x s) c
        (λ P x p. step_is P x w s))) (λ P x p. moves_is P x))

    -- and where nothing satisfies them, it has no run.
    pub step_stuck : ((P : ℕ) (x : ℕ → ℕ) → 0 < P → ¬ Satisfies P x (step_demands w s)) → NoRun (s ∷ [])
    step_stuck n =
        single_fails s f (λ P x p m. n P (λ v. x (back w v)) p ((step_is P (λ v. x (back w v)) w s).1 ((moves_is P x).1 m).0))
