-- The question to a table, and to the bytes.
use Rattle.std.specs.Prelude.{◌≡◌, refl, List, ℕ, ◌*◌}
use Rattle.std.proofs.Common.{sym, ap, subst, ◌∙◌}
use Rattle.table.specs.Step.{Step}
use Rattle.table.specs.declared.Refusal.{Refusal}
use Rattle.table.specs.declared.Table.{Table}
use Rattle.table.specs.declared.Read.TheVariants as read
use Rattle.wire.specs.Reading.{read_of}
use Rattle.decode.specs.Fill.{table_of}
use Rattle.wire.specs.Records.{Bytes}
use Rattle.decode.specs.Meaning.{Means, accepted_means}
use Rattle.runs.specs.Run.{copies}
use Rattle.runs.specs.declared.Start.{Start}
use Rattle.runs.specs.Demand.{Starts, starts_of}
use Rattle.asking.specs.declared.Admission.{Admission}
use Rattle.asking.specs.declared.Admission.TheVariants as admission
use Rattle.plan.specs.declared.Outcome.{Outcome}
use Rattle.plan.specs.declared.Outcome.TheVariants as outcome
use Rattle.plan.specs.Answer.{Rooms, Answered, admit_rooms, asking_of, Meets, Answers}
use Rattle.constraints.specs.Sized.{Tabled, Sized, rounds_of}
use Rattle.asking.specs.Admitted.{admit_held}
use Rattle.asking.specs.Rounds.{clocks_of, rounds_in}
use Rattle.solving.specs.Solve.{Roomy}

-- ---- all tests have held
pub admit_sized : (t : Table) (k : ℕ) (r : Rooms) → Tabled t → admit_rooms t.clocks t.steps k r ≡ admission.Accepted
    → Sized t k × Roomy (k * t.steps) t.clocks r.times r.starts r.loop
admit_sized t k r g e =
    let h = admit_held _ _ _ _ _ _ e in (
      record { good = g.good; clocks = g.clocks; some = h.some; few = h.few },
      record { times = h.times; starts = h.starts; loop = h.loop },
    )

-- ---- the answer
pub meets_refused : (q : Admission) (n : ℕ) (σ : List Step) (D : Starts) (r r' : Rooms) (f : Refusal) → q ≡ admission.Refused f
    → r' ≡ r → Meets q n σ D r r' (outcome.Refused f)
meets_refused q n σ D r r' f e same =
    subst (λ (x : Admission). Meets x n σ D r r' (outcome.Refused f)) (sym e) (refl, same)

pub meets_accepted : (q : Admission) (n : ℕ) (σ : List Step) (D : Starts) (r r' : Rooms) (a : Outcome) → q ≡ admission.Accepted
    → Answered n σ D r r' a → Meets q n σ D r r' a
meets_accepted q n σ D r r' a e h = subst (λ (x : Admission). Meets x n σ D r r' a) (sym e) h

-- ---- the question to the bytes
asking_refused : (bytes : List ℕ) (k : ℕ) (r : Rooms) (f : Refusal) → read_of bytes ≡ read.Refused f
    → asking_of bytes k r ≡ admission.Refused f
unfolding asking_of
asking_refused bytes k r f e = rw (asking_of, e) refl

pub refused_answers : (bytes : List ℕ) (v : Start) (k : ℕ) (r : Rooms) (f : Refusal) → read_of bytes ≡ read.Refused f
    → Answers bytes v k r r (outcome.Refused f)
refused_answers bytes v k r f e = record { answers = meets_refused _ _ _ (starts_of v) r r f (asking_refused bytes k r f e) refl }

asking_counted : (bytes : List ℕ) (k : ℕ) (r : Rooms) (n L g : ℕ) → read_of bytes ≡ read.Counted n L g
    → asking_of bytes k r ≡ admit_rooms n L k r
unfolding asking_of
asking_counted bytes k r n L g e = rw (asking_of, e) refl

module _ (bytes : List ℕ) (small : Bytes bytes) (n L g : ℕ) (e : read_of bytes ≡ read.Counted n L g) (t : Table) (f : t ≡ table_of bytes) where
  means : Means bytes t n L g
  means = accepted_means bytes small n L g e t f

  -- The table is fit for planning.
  pub counted_tabled : Tabled t
  counted_tabled = record { good = means.good; clocks = means.guarded }

  -- What is said of it is said of what the bytes write down. Q speaks of the number of steps of a round, of the clocks, and of the steps of
  -- k rounds.
  pub bytes_table : (k : ℕ) (Q : ℕ → ℕ → List Step → Type 0) → Q t.steps t.clocks (rounds_of t k) → Q L (clocks_of bytes) (rounds_in bytes k)
  bytes_table k Q q =
      subst (λ s. Q s (clocks_of bytes) (rounds_in bytes k)) means.steps
      (subst (λ σ. Q t.steps (clocks_of bytes) (copies σ k)) means.same (subst (λ c. Q t.steps c (rounds_of t k)) means.named q))

  -- Its answer is the answer to the bytes.
  pub counted_answers : (v : Start) (k : ℕ) (r r' : Rooms) (a : Outcome)
      → Meets (admit_rooms t.clocks t.steps k r) t.clocks (rounds_of t k) (starts_of v) r r' a → Answers bytes v k r r' a
  counted_answers v k r r' a h =
      record {
        answers =
            subst (λ (q : Admission). Meets q (clocks_of bytes) (rounds_in bytes k) (starts_of v) r r' a) tests
            (bytes_table k (λ s c σ. Meets (admit_rooms c s k r) c σ (starts_of v) r r' a) h);
      }
    where
      tests : admit_rooms (clocks_of bytes) L k r ≡ asking_of bytes k r
      tests =
          ap (λ (c : ℕ). admit_rooms c L k r) (sym means.named ∙ means.clocks)
          ∙ sym (asking_counted bytes k r n L g e)
