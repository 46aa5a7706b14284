-- How the table by value goes on, one record at a time.
use Rattle.std.specs.Prelude.{◌≡◌, List, ℕ, ◌+◌, ◌≤◌, ◌<◌, length, get_or, drop}
use Rattle.std.proofs.Common.{sym, ap, ◌∙◌}
use Rattle.table.specs.declared.Refusal.{Refusal}
use Rattle.table.specs.declared.Read.TheVariants as read
use Rattle.table.specs.declared.Table.{Table}
use Rattle.records.specs.Rules.{body_size}
use Rattle.wire.specs.Records.{record_at, records_at, records_none, records_next}
use Rattle.wire.specs.Reading.{read_of}
use Rattle.filling.specs.Filling.{empty}
use Rattle.decode.specs.Fill.{put, filled, table_of}

-- a table by value, one record further
pub filled_on : (bytes : List ℕ) (t u : Table) (at kind size : ℕ) → at < length bytes → kind ≡ get_or bytes at 0 → size ≡ body_size kind
    → u ≡ put (record_at at kind (drop (at + 1) bytes)) t
    → filled u (records_at bytes (at + 1 + size)) ≡ filled t (records_at bytes at)
unfolding filled
filled_on bytes t u at kind size h k s p =
    (λ i. filled (p i) (records_at bytes (at + 1 + s i)))
    ∙ (λ i. filled (put (record_at at (k i) (drop (at + 1) bytes)) t) (records_at bytes (at + 1 + body_size (k i))))
    ∙ ap (filled t) (sym (records_next bytes at h))

pub filled_out : (bytes : List ℕ) (t : Table) (at : ℕ) → length bytes ≤ at → filled t (records_at bytes at) ≡ t
unfolding filled
filled_out bytes t at h = ap (filled t) (records_none bytes at h)

-- the table by value of accepted and of refused bytes
pub table_counted : (bytes : List ℕ) (n l g : ℕ) → read_of bytes ≡ read.Counted n l g → table_of bytes ≡ filled empty (records_at bytes 0)
unfolding table_of
table_counted bytes n l g e = rw (table_of, e)

pub table_refused : (bytes : List ℕ) (f : Refusal) → read_of bytes ≡ read.Refused f → table_of bytes ≡ empty
unfolding table_of
table_refused bytes f e = rw (table_of, e)
