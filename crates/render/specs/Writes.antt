-- The report on an accepted table is written.
use Rattle.std.specs.Prelude.{◌≡◌, refl, cond, ℕ, zero, suc, ◌+◌, ◌*◌, ◌≤◌, ◌<◌, ltb}
use Rattle.std.proofs.Math.Path.{sym, ap}
use Rattle.std.proofs.Common.{◌∙◌, subst, arith, lt-ltb, le-ltb}
use mathlib.Core.List.{List, [], ◌++◌, append-nil}
use Rattle.std.proofs.Math.Decide.{dec_lt}
use Rattle.table.specs.declared.Read.{Read}
use Rattle.table.specs.declared.Read.TheVariants as read
use Rattle.text.specs.Over.{Written, written_then, written_as}
use Rattle.wire.specs.Reading.{read_of}
use Rattle.asking.specs.Rounds.{clocks_of, cycle_of, rounds_in}
use Rattle.runs.specs.declared.Start.TheVariants.{LogIn}
use Rattle.runs.specs.Demand.{starts_of, Exists}
use Rattle.rounds.specs.declared.Count.{Count}
use Rattle.rounds.specs.declared.Count.TheVariants.{Finite, Endless, Refused}
use Rattle.rounds.specs.Answer.{Allows, Counts, Answers}
use Rattle.plan_lines.specs.PlanLines.{plan_lines}
use Rattle.plan_report.specs.Accepted.{Tabled, Plannable}
use Rattle.plan_report.specs.Found.{PlannedIn, WritesPlan}
use Rattle.count_lines.specs.Lines.{counted_line, count_line, planned_of}
use Rattle.render.specs.Reports.{rest_lines, report_of, Tells}

-- the report on accepted bytes is written
pub record WritesTable (bytes : List ℕ) (n L g : ℕ) (before after : List ℕ) (end : ℕ) : Type 0 where
  pub text : List ℕ
  pub tells : Tells bytes n L g text
  pub written : Written before 0 text after end

-- ---- the rounds that are planned
-- as many rounds as are planned are at most 2, and the count allows them
planned_allowed : (r : Count) → 1 ≤ planned_of r → (planned_of r ≤ 2) × Allows r (planned_of r)
unfolding planned_of
planned_allowed (Finite c) some = go (dec_lt c 2)
  where
    go : Dec (c < 2) → (cond (ltb c 2) c 2 ≤ 2) × (cond (ltb c 2) c 2 ≤ c)
    go (yes h) = rw (lt-ltb c 2 h) (omega arith, omega arith)
    go (no h) = let l : 2 ≤ c = omega arith in rw (le-ltb c 2 l) (omega arith, l)
planned_allowed Endless some = (omega arith, tt)
planned_allowed (Refused f) some = absurd (omega arith)

pub plannable : (bytes : List ℕ) (n L : ℕ) → Tabled bytes n L → (r : Count)
    → Counts (clocks_of bytes) (starts_of LogIn) (cycle_of bytes) r → (k : ℕ) → k ≡ planned_of r → 1 ≤ k → Plannable bytes n L k
plannable bytes n L a r c k e some =
    record {
      table = a;
      some = some;
      few = h.0;
      exists = subst (λ (m : ℕ). Exists m (starts_of LogIn) (rounds_in bytes k)) a.clocks ((c.runs k).1 h.1);
    }
  where
    h : (k ≤ 2) × Allows r k
    h = subst (λ (m : ℕ). (m ≤ 2) × Allows r m) (sym e) (planned_allowed r (omega (arith, e, some)))

-- ---- the lines after the second
rest_none : (n L k : ℕ) (t s : ℕ → ℕ) → k ≡ 0 → rest_lines n L k t s ≡ []
unfolding rest_lines
rest_none n L zero t s e = refl
rest_none n L (suc k) t s e = absurd (omega arith)

rest_some : (n L k : ℕ) (t s : ℕ → ℕ) → 1 ≤ k → rest_lines n L k t s ≡ plan_lines (k * L + n + 1) n L (k * L) t s
unfolding rest_lines
rest_some n L zero t s h = absurd (omega arith)
rest_some n L (suc k) t s h = refl

-- ---- an accepted table
module _ (bytes : List ℕ) (n L g : ℕ) (accepted : read_of bytes ≡ read.Counted n L g) where
  pub accepted_counts : (r : Count) → Answers (read_of bytes) bytes LogIn r
      → Counts (clocks_of bytes) (starts_of LogIn) (cycle_of bytes) r
  accepted_counts r a = subst (λ (q : Read). Answers q bytes LogIn r) accepted a

  module _ (r : Count) (answers : Answers (read_of bytes) bytes LogIn r) (k : ℕ) (rounds : k ≡ planned_of r) where
    -- a text that reports the count and a plan, if rounds are planned
    tells : (t s : ℕ → ℕ) → (1 ≤ k → PlannedIn bytes n L k t s) → Tells bytes n L g (report_of n L g r t s)
    tells t s p = record {
      count = r;
      moments = t;
      starts = s;
      counts = accepted_counts r answers;
      planned = subst (λ (m : ℕ). 1 ≤ m → PlannedIn bytes n L m t s) rounds p;
      lines = refl;
    }

    -- no round is planned
    pub writes_none : {before after : List ℕ} {end : ℕ} → k ≡ 0 → Written before 0 (counted_line n L g ++ count_line r) after end
        → WritesTable bytes n L g before after end
    unfolding report_of
    writes_none none w =
        record {
          text = report_of n L g r (λ i. 0) (λ j. 0);
          tells = tells (λ i. 0) (λ j. 0) (λ some. absurd (omega arith));
          written = written_as same w;
        }
      where
        same : counted_line n L g ++ count_line r ≡ report_of n L g r (λ i. 0) (λ j. 0)
        same =
            sym
            (ap (λ (x : List ℕ). counted_line n L g ++ count_line r ++ x)
            (rest_none n L (planned_of r) (λ i. 0) (λ j. 0) (sym rounds ∙ none))
            ∙ append-nil _)

    -- k rounds are planned
    pub writes_plan : {before middle after : List ℕ} {at end : ℕ} → 1 ≤ k
        → Written before 0 (counted_line n L g ++ count_line r) middle at → WritesPlan bytes n L k middle at after end
        → WritesTable bytes n L g before after end
    unfolding report_of
    writes_plan some w p =
        record {
          text = report_of n L g r p.moments p.starts;
          tells = tells p.moments p.starts (λ _. p.planned);
          written = written_as same (written_then w p.written);
        }
      where
        same : counted_line n L g ++ count_line r ++ plan_lines (k * L + n + 1) n L (k * L) p.moments p.starts
            ≡ report_of n L g r p.moments p.starts
        same =
            ap (λ (x : List ℕ). counted_line n L g ++ count_line r ++ x)
            (sym (rest_some n L k p.moments p.starts some)
            ∙ ap (λ (m : ℕ). rest_lines n L m p.moments p.starts) rounds)
