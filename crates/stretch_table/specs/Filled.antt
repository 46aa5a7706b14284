-- The table by value of the table written out: it represents the steps that the bytes mean, and how it is filled in.
use Rattle.std.specs.Prelude.{◌≡◌, refl, List, [], ℕ, ◌-◌, ◌≤◌, length, take}
use Rattle.std.proofs.Common.{sym, ap, subst, ◌∙◌}
use Rattle.text.specs.Over.{Written}
use Rattle.table.specs.declared.Refusal.{Refusal}
use Rattle.table.specs.declared.Table.{Table}
use Rattle.table.specs.declared.Read.TheVariants as read
use Rattle.records.specs.Checking.{check_of}
use Rattle.wire.specs.Records.{Bytes, records, records_from}
use Rattle.wire.specs.Reading.{read_of}
use Rattle.wire.specs.Laws.{counted_short}
use Rattle.format.specs.Encode.{encode}
use Rattle.filling.specs.Filling.{empty}
use Rattle.decode.specs.Fill.{filled, table_of}
use Rattle.decode.specs.Laws.{table_counted, table_refused}
use Rattle.decode.specs.Represent.{Represents, filled_encoded}
use Rattle.stretches.specs.Reading.{read_out}
use Rattle.stretches.specs.Listing.{written_out}
use Rattle.stretches.proofs.Meaning.{accepted_counted}
use Rattle.write_out.specs.Plain.{plain_of, Accepted, plain_answer, plain_accepted, plain_read, plain_same}
use Rattle.write_out.specs.Out.{out_part}

-- of refused bytes it is the empty one
pub table_none : (bytes : List ℕ) (f : Refusal) → read_out bytes ≡ read.Refused f → empty ≡ table_of (plain_of bytes)
unfolding read_of check_of records_from
table_none bytes f e = sym (table_refused [] _ refl) ∙ ap table_of (plain_answer bytes (read.Refused f) e)

module _ (bytes : List ℕ) (small : Bytes bytes) (a : Accepted bytes) where
  -- the table written out is accepted too
  plain : read_of (plain_of bytes) ≡ read.Counted a.clocks a.steps a.guards
  plain = (plain_read bytes small _ _ _ a.counted).0

  -- The table by value represents the steps written out.
  pub plain_represents : Represents (table_of (plain_of bytes)) (written_out bytes)
  plain_represents =
      subst (λ t. Represents t (written_out bytes))
      (ap (λ bs. filled empty (records bs)) (plain_accepted bytes a) ∙ sym (table_counted (plain_of bytes) _ _ _ plain))
      (filled_encoded (written_out bytes) (accepted_counted bytes small _ _ _ a.counted).legal)

  -- the part of a room that holds the table written out is short, and what it fills in is the table
  module _ {old room : List ℕ} {end : ℕ} (h : 531 ≤ length old) (x : Written old 0 (encode (written_out bytes)) room end) where
    pub part_short : length (take (end - 0) room) ≤ 4096
    part_short = subst (λ bs. length bs ≤ 4096) (sym (out_part bytes small a old room end h x)) (counted_short (plain_of bytes) _ _ _ plain)

    pub part_filled : (t : Table) → t ≡ filled empty (records (take (end - 0) room)) → t ≡ table_of (plain_of bytes)
    part_filled t is =
        is ∙ ap (λ bs. filled empty (records bs)) (out_part bytes small a old room end h x) ∙ sym (table_counted (plain_of bytes) _ _ _ plain)

-- where no stretch comes, the bytes themselves fill it in
pub table_same : (bytes : List ℕ) → Bytes bytes → (n L g : ℕ) → read_out bytes ≡ read.Counted n L g → read_of bytes ≡ read.Counted n L g
    → filled empty (records bytes) ≡ table_of (plain_of bytes)
table_same bytes small n L g e f = sym (table_counted bytes n L g f) ∙ ap table_of (plain_same bytes small n L g e f)
