-- The effect of one step as the program makes it: its difference constraints put into the cells, and the cells closed.
use Rattle.std.specs.Prelude.{◌≡◌, Bool, false, List, [], ◌∷◌, ℕ, ◌+◌, ◌-◌, ◌^◌}
use Rattle.std.proofs.Common.{sym, subst, ◌∙◌, arith}
use Rattle.table.specs.Step.{Step, Fair}
use Rattle.runs.specs.Demand.{plus, guards_demands}
use Rattle.runs.specs.Satisfies.{Satisfies}
use Rattle.zones.specs.Closure.{no_others, closure_canonical, canonical_for}
use Rattle.zones.specs.Cells.{matrix, Ranged, Diagonal}
use Rattle.zones.specs.Building.{ranged_wider, unbounded_ranged, unbounded_solves, unbounded_flat}
use Rattle.closing.specs.Closing.{Closing, closing_closure, closing_fails}
use Rattle.effects.specs.Demands.{each}
use Rattle.effects.specs.StepDemands.{clock_demands, step_demands, Uses, step_short}
use Rattle.effects.specs.Tells.{Tells}
use Rattle.effects.specs.Whole.{Side, whole}
use Rattle.effects.specs.WholeStep.{whole_step, step_stuck}
use Rattle.steps.specs.Puts.{puts_of, puts_append, Put, puts}

-- The program puts in first time and the clocks, then the guards.
pub raw_put : (w : ℕ) (s : Step) (l m z : List ℕ)
    → m ≡ puts_of (plus w 0 0 false ∷ each (w - 1) (clock_demands w s)) l
    → z ≡ puts_of (guards_demands s.guards w (λ j. j)) m → z ≡ puts_of (step_demands w s) l
unfolding step_demands
raw_put w s l m z e f =
    f ∙ rw e (sym (puts_append (plus w 0 0 false ∷ each (w - 1) (clock_demands w s)) (guards_demands s.guards w (λ j. j)) l))

module _ (w : ℕ) (side : Side w) (s : Step) (f : Fair s) (u : Uses w s) (l m : List ℕ) (d : Diagonal (w + w) (w + w) l)
    (e : m ≡ puts_of (step_demands w s) l) where
  raw : Put 4000 (w + w) (step_demands w s) l m
  raw =
      subst (Put 4000 (w + w) (step_demands w s) l) (sym e)
      (puts 4000 (w + w) (omega arith) (omega arith) (omega (arith, side.1)) (step_demands w s)
      (step_short w side.0 s f u.guards) l (unbounded_ranged d 4000))

  -- The cells may be closed,
  pub raw_closable : Ranged (2 ^ 52) (w + w) m
  raw_closable = ranged_wider (2 ^ 52) (omega arith) raw.ranged

  -- and that tells the effect of the step.
  pub raw_tells : (ok : Bool) (z : List ℕ) → Closing (w + w) 0 m z ok → Tells (s ∷ []) ok (whole w (matrix z))
  raw_tells ok z c = record {
    runs = λ q.
        whole_step w side s u f
        (canonical_for (λ P x. Satisfies P x (step_demands w s))
        (closure_canonical (closing_closure c (no_others (w + w) (matrix m)) q) (raw.flat (unbounded_flat d)))
        (λ P x p. ((λ h. ((raw.solves P x p).0 h).1), λ h. (raw.solves P x p).1 (unbounded_solves d P x p, h))));
    stuck = λ q.
        step_stuck w side s u f
        (λ P x p h. closing_fails c q (P, p, (x, (raw.solves P x p).1 (unbounded_solves d P x p, h))));
  }
