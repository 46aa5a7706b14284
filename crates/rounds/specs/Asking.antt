-- The question put to bytes: they are refused, or accepted, and then the table by value is the table they write down.
use Rattle.std.specs.Prelude.{◌≡◌, refl, List, ℕ, ◌+◌}
use Rattle.std.proofs.Common.{sym, ◌∙◌, arith}
use Rattle.table.specs.declared.Read.{Read}
use Rattle.table.specs.declared.Read.TheVariants as read
use Rattle.table.specs.declared.Refusal.{Refusal}
use Rattle.table.specs.declared.Table.{Table}
use Rattle.table.specs.Step.{Step, steps_of, Good}
use Rattle.runs.specs.declared.Start.{Start}
use Rattle.runs.specs.Demand.{Starts, starts_of}
use Rattle.joins.specs.Round.{UsesAll}
use Rattle.wire.specs.Reading.{read_of}
use Rattle.wire.specs.Listing.{listing, cycle}
use Rattle.decode.specs.Fill.{table_of}
use Rattle.wire.specs.Records.{Bytes}
use Rattle.decode.specs.Meaning.{Means, accepted_means}
use Rattle.rounds.specs.declared.Count.{Count}
use Rattle.rounds.specs.declared.Count.TheVariants.{Refused}
use Rattle.rounds.specs.Answer.{Counts, Answers}

counts_same : {m n : ℕ} {D : Starts} {σ τ : List Step} (r : Count) → m ≡ n → σ ≡ τ → Counts m D σ r → Counts n D τ r
counts_same r e f h = rw (e, f) at h

module _ (bytes : List ℕ) (v : Start) (a : Read) (e : a ≡ read_of bytes) where
  pub answers_refused : (f : Refusal) → a ≡ read.Refused f → Answers (read_of bytes) bytes v (Refused f)
  answers_refused f q = rw (sym e ∙ q) refl

  module _ (t : Table) (s : t ≡ table_of bytes) (small : Bytes bytes) (n L g : ℕ) (q : a ≡ read.Counted n L g) where
    means : Means bytes t n L g
    means = accepted_means bytes small n L g (sym e ∙ q) t s

    pub accepted_good : Good t
    accepted_good = means.good

    -- Its steps use no clock that it does not have.
    pub accepted_uses : UsesAll (t.clocks + 1) t
    accepted_uses s m = record {
      guards = λ g i. let c = means.guarded s m g i in omega (arith, c.0, c.1, c.2);
      resets = λ j h k. means.reset s m j (omega arith) k;
    }

    -- Its clocks, as many as were read, and its steps are those that the bytes write down.
    pub accepted_same : (n ≡ t.clocks) × (t.clocks ≡ (listing bytes).clocks) × (steps_of t ≡ cycle (listing bytes))
    accepted_same = (sym means.clocks, means.named, means.same)

    pub answers_counted : (r : Count) → Counts t.clocks (starts_of v) (steps_of t) r → Answers (read_of bytes) bytes v r
    answers_counted r h =
        rw (sym e ∙ q) (counts_same r means.named means.same h)
