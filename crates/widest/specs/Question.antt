-- The question to a table, and to the bytes.
use Rattle.std.specs.Prelude.{◌≡◌, true, false, cond, List, ℕ}
use Rattle.std.proofs.Math.Path.{refl, subst}
use Rattle.std.proofs.Common.{sym}
use Rattle.table.specs.Refusal.{placeless}
use Rattle.table.specs.Step.{Step}
use Rattle.table.specs.declared.Fault.TheVariants as fault
use Rattle.table.specs.declared.Refusal.{Refusal}
use Rattle.table.specs.declared.Table.{Table}
use Rattle.table.specs.declared.Read.TheVariants as read
use Rattle.wire.specs.Reading.{read_of}
use Rattle.wire.specs.Records.{Bytes}
use Rattle.decode.specs.Fill.{table_of}
use Rattle.asking.specs.declared.Admission.TheVariants as admission
use Rattle.asking.specs.Admission.{refused_for, in_range}
use Rattle.asking.specs.Admitted.{range_true}
use Rattle.asking.specs.Rounds.{clocks_of, rounds_in}
use Rattle.constraints.specs.Sized.{Tabled, Sized, rounds_of}
use Rattle.plan.specs.Admit.{bytes_table}
use Rattle.widest.specs.declared.Answer.{Answer}
use Rattle.widest.specs.declared.Answer.TheVariants as answer
use Rattle.widest.specs.Answer.{admit_of, asking_of, Answered, Meets, Answers}

-- ---- the test of the number of rounds
module _ (t : Table) (k : ℕ) where
  pub ranged_sized : Tabled t → in_range k t.steps ≡ true → Sized t k
  ranged_sized g e =
      let h = range_true k t.steps e in record { good = g.good; clocks = g.clocks; some = h.0; few = h.1 }

  module _ (n : ℕ) (σ : List Step) where
    pub meets_refused : in_range k t.steps ≡ false
        → Meets (admit_of t.steps k) n σ (answer.Refused (placeless fault.Rounds))
    meets_refused e =
        subst (λ q. Meets (cond q admission.Accepted (refused_for fault.Rounds)) n σ (answer.Refused (placeless fault.Rounds)))
        (sym e) refl

    pub meets_accepted : (a : Answer) → in_range k t.steps ≡ true → Answered n σ a → Meets (admit_of t.steps k) n σ a
    meets_accepted a e h =
        subst (λ q. Meets (cond q admission.Accepted (refused_for fault.Rounds)) n σ a) (sym e) h

-- ---- the question to the bytes
module _ (bytes : List ℕ) (k : ℕ) where
  pub refused_answers : (f : Refusal) → read_of bytes ≡ read.Refused f → Answers bytes k (answer.Refused f)
  unfolding asking_of
  refused_answers f e =
      let q : asking_of bytes k ≡ admission.Refused f = rw (asking_of, e) refl in
      record { answers = subst (λ x. Meets x (clocks_of bytes) (rounds_in bytes k) (answer.Refused f)) (sym q) refl }

  asking_counted : (n L g : ℕ) → read_of bytes ≡ read.Counted n L g → asking_of bytes k ≡ admit_of L k
  unfolding asking_of
  asking_counted n L g e = rw (asking_of, e) refl

  -- The answer to the table is the answer to its bytes.
  pub counted_answers : Bytes bytes → (n L g : ℕ) → read_of bytes ≡ read.Counted n L g → (t : Table) → t ≡ table_of bytes → (a : Answer)
      → Meets (admit_of t.steps k) t.clocks (rounds_of t k) a → Answers bytes k a
  counted_answers small n L g e t f a m =
      record {
        answers =
            subst (λ q. Meets q (clocks_of bytes) (rounds_in bytes k) a) (sym (asking_counted n L g e))
            (bytes_table bytes small n L g e t f k (λ s c σ. Meets (admit_of s k) c σ a) m);
      }
