-- The question to a table, and to the bytes.
use Rattle.std.specs.Prelude.{◌≡◌, List, ℕ, ◌*◌, length}
use Rattle.std.proofs.Math.Path.{refl}
use Rattle.std.proofs.Common.{sym, subst}
use Rattle.table.specs.Step.{Step}
use Rattle.table.specs.declared.Refusal.{Refusal}
use Rattle.table.specs.declared.Table.{Table}
use Rattle.table.specs.declared.Read.TheVariants as read
use Rattle.wire.specs.Reading.{read_of}
use Rattle.wire.specs.Records.{Bytes}
use Rattle.decode.specs.Fill.{table_of}
use Rattle.asking.specs.declared.Admission.{Admission}
use Rattle.asking.specs.declared.Admission.TheVariants as admission
use Rattle.asking.specs.Rounds.{clocks_of, rounds_in}
use Rattle.constraints.specs.Sized.{Tabled, Sized, rounds_of}
use Rattle.showing.specs.Shown.{Room}
use Rattle.plan.specs.Admit.{bytes_table}
use Rattle.windows.specs.declared.Panel.{Panel}
use Rattle.windows.specs.declared.Panel.TheVariants as panel
use Rattle.windows.specs.Admit.{admit_of, asking_of, admit_held}
use Rattle.windows.specs.Answer.{Rooms, Answered, Meets, Answers}

-- ---- all tests have held
pub admit_sized : (t : Table) (k marks times : ℕ) → Tabled t → admit_of t.steps k marks times ≡ admission.Accepted
    → Sized t k × Room (k * t.steps) marks times
admit_sized t k marks times g e =
    let h = admit_held t.steps k marks times e in (
      record { good = g.good; clocks = g.clocks; some = h.some; few = h.few },
      record { for_marks = h.for_marks; for_times = h.for_times },
    )

-- ---- the answer
module _ (q : Admission) (n : ℕ) (σ : List Step) (r r' : Rooms) where
  pub meets_refused : (f : Refusal) → q ≡ admission.Refused f → r' ≡ r → Meets q n σ r r' (panel.Refused f)
  meets_refused f e same = subst (λ (x : Admission). Meets x n σ r r' (panel.Refused f)) (sym e) (refl, same)

  pub meets_accepted : (a : Panel) → q ≡ admission.Accepted → Answered n σ r r' a → Meets q n σ r r' a
  meets_accepted a e h = subst (λ (x : Admission). Meets x n σ r r' a) (sym e) h

-- ---- the question to the bytes
module _ (bytes : List ℕ) (k : ℕ) (r : Rooms) where
  asking_refused : (f : Refusal) → read_of bytes ≡ read.Refused f
      → asking_of bytes k (length r.marks) (length r.times) ≡ admission.Refused f
  unfolding asking_of
  asking_refused f e = rw (asking_of, e) refl

  pub refused_answers : (f : Refusal) → read_of bytes ≡ read.Refused f → Answers bytes k r r (panel.Refused f)
  refused_answers f e = record { answers = meets_refused _ _ _ r r f (asking_refused f e) refl }

  asking_counted : (n L g : ℕ) → read_of bytes ≡ read.Counted n L g
      → asking_of bytes k (length r.marks) (length r.times) ≡ admit_of L k (length r.marks) (length r.times)
  unfolding asking_of
  asking_counted n L g e = rw (asking_of, e) refl

  -- The answer to the table is the answer to its bytes.
  pub counted_answers : Bytes bytes → (n L g : ℕ) → read_of bytes ≡ read.Counted n L g → (t : Table) → t ≡ table_of bytes
      → (r' : Rooms) (a : Panel)
      → Meets (admit_of t.steps k (length r.marks) (length r.times)) t.clocks (rounds_of t k) r r' a
      → Answers bytes k r r' a
  counted_answers small n L g e t f r' a m =
      record {
        answers =
            subst (λ q. Meets q (clocks_of bytes) (rounds_in bytes k) r r' a) (sym (asking_counted n L g e))
            (bytes_table bytes small n L g e t f k
            (λ s c σ. Meets (admit_of s k (length r.marks) (length r.times)) c σ r r' a) m);
      }
