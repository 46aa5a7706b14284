-- What accepted bytes mean to the questions: the table that they write down, and the table by value.
use Rattle.std.specs.Prelude.{◌≡◌, false, ℕ, ◌≤◌, ◌<◌, get_or}
use Rattle.std.proofs.Common.{sym, subst, ◌∙◌, ap, arith}
use mathlib.Core.List.{List, Memᴰ}
use Rattle.table.specs.Step.{Step, steps_of, resets, Good}
use Rattle.table.specs.declared.Guard.{Guard}
use Rattle.table.specs.declared.Table.{Table}
use Rattle.table.specs.declared.Read.TheVariants as read
use Rattle.wire.specs.Records.{Bytes, records}
use Rattle.wire.specs.Reading.{read_of}
use Rattle.wire.specs.Listing.{listing, cycle}
use Rattle.filling.specs.Filling.{empty}
use Rattle.decode.specs.Fill.{filled, table_of}
use Rattle.decode.specs.Laws.{table_counted}
use Rattle.format.specs.Encode.{encode}
use Rattle.format.proofs.Accepted.{Written, accepted_written}
use Rattle.format.specs.Fair.{legal_clocks, legal_resets}
use Rattle.decode.specs.Represent.{Represents, filled_encoded}

-- The table by value of accepted bytes represents the table that they write down.
pub table_represents : (bytes : List ℕ) → Bytes bytes → (n L g : ℕ) → read_of bytes ≡ read.Counted n L g
    → Represents (table_of bytes) (listing bytes)
table_represents bytes h n L g e =
    subst (λ t. Represents t (listing bytes)) same (filled_encoded (listing bytes) w.legal)
  where
    w : Written (listing bytes) bytes n L g
    w = accepted_written bytes h n L g e

    same : filled empty (records (encode (listing bytes))) ≡ table_of bytes
    same = ap (λ bs. filled empty (records bs)) w.written ∙ sym (table_counted bytes n L g e)

-- What accepted bytes are to the questions, when t is the table by value that they fill in: t is good, and uses its own clocks only; its
-- clocks and steps are those that the bytes write down, and n, L and g count them.
pub record Means (bytes : List ℕ) (t : Table) (n L g : ℕ) : Type 0 where
  pub good : Good t
  pub clocks : t.clocks ≡ n
  pub steps : t.steps ≡ L
  pub guards : get_or t.ends t.steps 0 ≡ g
  pub named : t.clocks ≡ (listing bytes).clocks
  pub same : steps_of t ≡ cycle (listing bytes)
  pub guarded : (s : Step) → Memᴰ s (steps_of t) → (c : Guard) → Memᴰ c s.guards
      → (0 < c.clock) × (c.clock ≤ t.clocks) × (c.second ≤ t.clocks)
  pub reset : (s : Step) → Memᴰ s (steps_of t) → (j : ℕ) → t.clocks < j → j < 7 → resets s j ≡ false

pub accepted_means : (bytes : List ℕ) → Bytes bytes → (n L g : ℕ) → read_of bytes ≡ read.Counted n L g → (t : Table) → t ≡ table_of bytes
    → Means bytes t n L g
accepted_means bytes h n L g e t f =
    record {
      good = r.good;
      clocks = r.clocks ∙ sym w.clocks;
      steps = r.steps ∙ sym w.steps;
      guards = r.guards ∙ sym w.guards;
      named = r.clocks;
      same = r.same;
      guarded = λ s m c i.
          let b = legal_clocks (listing bytes) w.legal s (rw r.same at m) c i in
          (b.0, omega (arith, b.1, r.clocks), omega (arith, b.2, r.clocks));
      reset = λ s m j a b. legal_resets (listing bytes) w.legal s (rw r.same at m) j (omega (arith, r.clocks)) b;
    }
  where
    r : Represents t (listing bytes)
    r = rw f (table_represents bytes h n L g e)

    w : Written (listing bytes) bytes n L g
    w = accepted_written bytes h n L g e
