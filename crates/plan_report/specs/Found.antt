-- The plan is found, and its lines are written.
use Rattle.std.specs.Prelude.{◌≡◌, refl, List, ℕ, zero, suc, ◌+◌, ◌-◌, ◌*◌, ◌≤◌, length, get_or}
use Rattle.std.proofs.Common.{◌∙◌, ap, subst, arith, mul-le-mul}
use Rattle.table.specs.declared.Refusal.{Refusal}
use Rattle.text.specs.Over.{Written, written_as}
use Rattle.asking.specs.Rounds.{clocks_of, rounds_in}
use Rattle.runs.specs.declared.Start.TheVariants.{LogIn}
use Rattle.runs.specs.Demand.{starts_of}
use Rattle.plan.specs.declared.Outcome.{Outcome}
use Rattle.plan.specs.declared.Outcome.TheVariants as outcome
use Rattle.asking.specs.declared.Admission.{Admission}
use Rattle.asking.specs.declared.Admission.TheVariants as admission
use Rattle.plan.specs.Planned.{Planned}
use Rattle.plan.specs.Answer.{Rooms, moments_in, starts_in, Answered, admit_rooms, Meets, Answers}
use Rattle.asking.specs.Admitted.{admit_all}
use Rattle.plan.specs.Decides.{refuted_none}
use Rattle.plan_lines.specs.PlanLines.{number_in, plan_lines}
use Rattle.plan_lines.specs.Same.{SameTo, plan_lines_same}
use Rattle.plan_report.specs.Accepted.{Plannable}

-- t and s are the plan by log-in, in kL + n + 1 parts to a tick, of k rounds of the table that the bytes write down
abbrev pub PlannedIn : List ℕ → ℕ → ℕ → ℕ → (ℕ → ℕ) → (ℕ → ℕ) → Type 0
PlannedIn bytes n L k t s = Planned (k * L + n + 1) n (rounds_in bytes k) (starts_of LogIn) t s

-- the lines of the plan of k rounds are written
pub record WritesPlan (bytes : List ℕ) (n L k : ℕ) (before : List ℕ) (at : ℕ) (after : List ℕ) (end : ℕ) : Type 0 where
  pub moments : ℕ → ℕ
  pub starts : ℕ → ℕ
  pub planned : PlannedIn bytes n L k moments starts
  pub written : Written before at (plan_lines (k * L + n + 1) n L (k * L) moments starts) after end

-- ---- the answer to the question "plan"
-- the answer is a plan in kL + n + 1 parts to a tick, and the rooms hold it
abbrev pub Holds : List ℕ → ℕ → ℕ → ℕ → Rooms → Outcome → Type 0
Holds bytes n L k r (outcome.Found P) =
    (P ≡ k * L + n + 1) × PlannedIn bytes n L k (moments_in r.times) (starts_in r.starts)
Holds bytes n L k r (outcome.Loop m) = ⊥
Holds bytes n L k r (outcome.Refused f) = ⊥

module _ (bytes : List ℕ) (n L k : ℕ) (p : Plannable bytes n L k) where
  pub steps_most : k * L ≤ 32
  steps_most = omega (arith, mul-le-mul p.few p.table.steps_few)

  answered_holds : (r r' : Rooms) (a : Outcome) → Answered n (rounds_in bytes k) (starts_of LogIn) r r' a → Holds bytes n L k r' a
  answered_holds r r' (outcome.Found P) f = (
    parts,
    subst (λ (m : ℕ). Planned m n (rounds_in bytes k) (starts_of LogIn) (moments_in r'.times) (starts_in r'.starts)) parts
        f.planned,
  )
    where
      parts : P ≡ k * L + n + 1
      parts = omega (arith, f.parts, p.table.size k)
  answered_holds r r' (outcome.Loop m) f = refuted_none n (rounds_in bytes k) (starts_of LogIn) r r' m (p.table.asked k) f p.exists
  answered_holds r r' (outcome.Refused f) x = x

  -- Rooms of 32, 6 and 39 places suffice, and a run exists: so the answer is a plan.
  module _ (r r' : Rooms) (times : length r.times ≡ 32) (starts : length r.starts ≡ 6)
      (loop : length r.loop ≡ 39) (a : Outcome) (x : Answers bytes LogIn k r r' a) where
    all : admit_rooms n L k r ≡ admission.Accepted
    all =
        admit_all n L k _ _ _ p.some
        (omega (arith, steps_most))
        (omega (arith, steps_most, times))
        (omega (arith, p.table.clocks_few, starts))
        (omega (arith, steps_most, p.table.clocks_few, loop))

    pub plan_holds : Holds bytes n L k r' a
    plan_holds =
        answered_holds r r' a
        (subst (λ (m : ℕ). Answered m (rounds_in bytes k) (starts_of LogIn) r r' a) p.table.clocks
        (subst (λ (q : Admission). Meets q (clocks_of bytes) (rounds_in bytes k) (starts_of LogIn) r r' a) (p.table.admits k r ∙ all)
        x.answers))

    pub plan_no_loop : (m : ℕ) → a ≡ outcome.Loop m → ⊥
    plan_no_loop m e = subst (Holds bytes n L k r') e plan_holds

    pub plan_not_refused : (f : Refusal) → a ≡ outcome.Refused f → ⊥
    plan_not_refused f e = subst (Holds bytes n L k r') e plan_holds

-- the moments in a room are its numbers
in_room : (n : ℕ) (times : List ℕ) → SameTo n (number_in times) (moments_in times)
in_room n times zero p l = absurd (omega arith)
in_room n times (suc i) p l = let less : suc i - 1 ≡ i = omega arith in ap (λ (j : ℕ). get_or times j 0) less

-- the plan in the rooms is written
pub plan_writes : (bytes : List ℕ) (n L k : ℕ) (r : Rooms) (P : ℕ) (a : Outcome) → Holds bytes n L k r a
    → a ≡ outcome.Found P → {before after : List ℕ} {at end : ℕ}
    → Written before at (plan_lines P n L (k * L) (number_in r.times) (number_in r.starts)) after end
    → WritesPlan bytes n L k before at after end
plan_writes bytes n L k r P a h e w =
    record {
      moments = moments_in r.times;
      starts = starts_in r.starts;
      planned = holds.1;
      written =
          written_as
          (plan_lines_same P n L (k * L) (number_in r.times) (moments_in r.times) _ _ (in_room (k * L) r.times) (λ j p l. refl)
          ∙ ap (λ (x : ℕ). plan_lines x n L (k * L) (moments_in r.times) (starts_in r.starts)) holds.0)
          w;
    }
  where
    holds : Holds bytes n L k r (outcome.Found P)
    holds = subst (Holds bytes n L k r) e h
