-- What accepted bytes give to the code: a sound table by value, whose demands are those of the table written down.
use Rattle.std.specs.Prelude.{◌≡◌, List, ℕ, ℤ, length}
use Rattle.std.proofs.Common.{sym, ◌∙◌, ap}
use Rattle.table.specs.declared.Read.TheVariants.{Counted, Refused as Denied}
use Rattle.table.specs.declared.Refusal.{Refusal}
use Rattle.table.specs.declared.Table.{Table}
use Rattle.runs.specs.Run.{copies}
use Rattle.runs.specs.declared.Start.{Start}
use Rattle.runs.specs.Demand.{demands, starts_of}
use Rattle.constraints.specs.Demands.{demands_of}
use Rattle.wire.specs.Reading.{read_of}
use Rattle.decode.specs.Fill.{table_of}
use Rattle.wire.specs.Records.{Bytes}
use Rattle.decode.specs.Meaning.{Means, accepted_means}
use Rattle.asking.specs.Rounds.{demands_in}
use Rattle.cells.specs.Lines.{cells}
use Rattle.constraints.specs.Sized.{Tabled}
use Rattle.demands.specs.declared.Listed.{Listed}
use Rattle.demands.specs.declared.Listed.TheVariants.{Refused}
use Rattle.demands.specs.Listed.{answer_of, listed_of, unless_refused, row_of}

-- ---- accepted bytes, and the table t that is filled in from them
module _ (bytes : List ℕ) (small : Bytes bytes) {n L g : ℕ} (e : read_of bytes ≡ Counted n L g)
    {t : Table} (same : t ≡ table_of bytes) where
  means : Means bytes t n L g
  means = accepted_means bytes small n L g e t same

  -- it is fit to be asked of
  pub table_tabled : Tabled t
  table_tabled = record { good = means.good; clocks = means.guarded }

  -- it has the demands of the table that is written down
  pub table_demands : (v : Start) (k : ℕ) → demands_of t v k ≡ demands_in bytes v k
  unfolding demands_in
  table_demands v k = λ i. demands (means.named i) (copies (means.same i) k) (starts_of v)

  listed_counted : (v : Start) (k room : ℕ)
      → answer_of t.steps k (length (demands_of t v k)) room ≡ listed_of bytes v k room
  unfolding listed_of
  listed_counted v k room =
      (λ i. answer_of (means.steps i) k (length (table_demands v k i)) room) ∙ rw (listed_of, e)

  -- the answer and the row that are right for it are right
  pub rows_counted : {r : Listed} (v : Start) (k room : ℕ) (row : List ℤ) {row' : List ℤ}
      → r ≡ answer_of t.steps k (length (demands_of t v k)) room → row' ≡ unless_refused r (cells (demands_of t v k)) row
      → (r ≡ listed_of bytes v k room) × (row' ≡ row_of bytes v k room row)
  unfolding row_of
  rows_counted v k room row a b =
      let right = a ∙ listed_counted v k room in
      (right, b ∙ (λ i. unless_refused (right i) (cells (table_demands v k i)) row))

-- ---- refused bytes
pub rows_refused : (bytes : List ℕ) (f : Refusal) (v : Start) (k room : ℕ) (row : List ℤ)
    → read_of bytes ≡ Denied f
    → (Refused f ≡ listed_of bytes v k room) × (row ≡ row_of bytes v k room row)
unfolding row_of listed_of
rows_refused bytes f v k room row e =
    let same : Refused f ≡ listed_of bytes v k room = rw (listed_of, e) in
    (same, ap (λ r. unless_refused r (cells (demands_in bytes v k)) row) same)
