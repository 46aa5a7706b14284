-- The first fault counts. Bytes are at most 4,096 here: over that, 1 (length) is given before the first byte (`read_long`).
-- Where they end matters to one row more, 2 (cut), which is given where they run out.
use Rattle.std.specs.Prelude.{◌≡◌, refl, ◌⊎◌, ◌≢◌, Bool, true, false, ℕ, ◌≤◌, ◌<◌, length, get_or, take}
use Rattle.std.proofs.Common.{sym, ap, subst, inl, inr, ⊎_elim, arith, length-append}
use mathlib.Core.List.{List, ◌++◌, Memᴰ}
use Rattle.std.proofs.Math.Decide.{dec_le}
use Rattle.std.proofs.lemmas.List.{take-append-le}
use Rattle.table.specs.Refusal.{number_of, of_table}
use Rattle.table.specs.declared.Fault.TheVariants as fault
use Rattle.table.specs.declared.Refusal.{Refusal}
use Rattle.table.specs.declared.Read.TheVariants as read
use Rattle.records.specs.declared.Tally.{Tally}
use Rattle.records.specs.declared.Verdict.TheVariants.{Refused}
use Rattle.records.specs.Rules.{body_size}
use Rattle.wire.specs.Records.{Record, records_at, records, records_next}
use Rattle.wire.specs.Reading.{judge_of, read_of}
use Rattle.wire.specs.Laws.{read_long}
use Rattle.format.specs.Reach.{record_of, after, stands, reach}
use Rattle.format.specs.Rows.{row_is, refused_of_table, refused_cut, refused_uncut}
use Rattle.format.specs.Coming.{Arises, in_record, after_end, run_out, found, whole_within, cut_past, comes_among}
use Rattle.format.specs.Alike.{reach_record, found_same, found_before}

-- Bytes that agree up to the end of the refused record are refused alike: the same fault at the same place. For a cut that
-- is past their end, so that the others end there too.
pub first_fault : (bytes bytes' : List ℕ) → length bytes ≤ 4096 → length bytes' ≤ 4096 → (f : Refusal)
    → read_of bytes ≡ read.Refused f → take (reach bytes f) bytes ≡ take (reach bytes f) bytes'
    → read_of bytes' ≡ read.Refused f
first_fault bytes bytes' short short' f r = found_same bytes bytes' f short' (found bytes short f r)

-- Bytes that agree up to the place of a refusal are not refused before it: every record before the place is accepted.
pub no_earlier : (bytes bytes' : List ℕ) → length bytes ≤ 4096 → length bytes' ≤ 4096 → (f : Refusal)
    → read_of bytes ≡ read.Refused f → take f.place bytes ≡ take f.place bytes'
    → (g : Refusal) → read_of bytes' ≡ read.Refused g → f.place ≤ g.place
no_earlier bytes bytes' short short' f r = found_before bytes bytes' f short' (found bytes short f r)

-- The bytes that decide a refusal are all there, unless it is that they run out.
pub reach_within : (bytes : List ℕ) → length bytes ≤ 4096 → (f : Refusal) → read_of bytes ≡ read.Refused f
    → f.fault ≢ fault.Cut → reach bytes f ≤ length bytes
reach_within bytes short f r uncut = go (found bytes short f r)
  where
    of_body : (t : Tally) → f.place < length bytes → judge_of t (record_of bytes f.place) ≡ Refused f
        → body_size (get_or bytes f.place 0) ≤ length (record_of bytes f.place).body
        → (b : Bool) → stands f.place (get_or bytes f.place 0) ≡ b → reach bytes f ≤ length bytes
    of_body t h j l true s = omega (arith, reach_record bytes f t j true s, whole_within bytes f.place h l)
    of_body t h j l false s = omega (arith, reach_record bytes f t j false s)

    go : Arises bytes f → reach bytes f ≤ length bytes
    go (in_record {t} c h j) =
        let x = record_of bytes f.place in
        ⊎_elim (λ s. omega (arith, reach_record bytes f t j false s))
        (λ l. of_body t h j l (stands f.place (get_or bytes f.place 0)) refl)
        (refused_uncut x (row_is x t j) uncut)
    go (after_end c h j more is) = subst (λ x. reach bytes x ≤ length bytes) (sym is) (omega arith)
    go (run_out c is) = absurd (uncut (ap (λ x. x.fault) is))

-- So it stays, whatever follows.
pub whatever_follows : (bytes rest : List ℕ) → length (bytes ++ rest) ≤ 4096 → (f : Refusal)
    → read_of bytes ≡ read.Refused f → f.fault ≢ fault.Cut → read_of (bytes ++ rest) ≡ read.Refused f
whatever_follows bytes rest short f r uncut =
    let fits : length bytes ≤ 4096 = omega (arith, length-append bytes rest) in
    first_fault bytes (bytes ++ rest) fits short f r
    (sym (take-append-le (reach bytes f) bytes rest (reach_within bytes fits f r uncut)))

-- A cut is where the bytes end, or at a record that goes on past them.
pub cut_place : (bytes : List ℕ) → length bytes ≤ 4096 → (p : ℕ)
    → read_of bytes ≡ read.Refused (record { fault = fault.Cut; place = p })
    → (p ≡ length bytes) ⊎ ((p < length bytes) × (length bytes < after bytes p))
cut_place bytes short p r = go (found bytes short _ r)
  where
    go : Arises bytes (record { fault = fault.Cut; place = p })
        → (p ≡ length bytes) ⊎ ((p < length bytes) × (length bytes < after bytes p))
    go (in_record {t} c h j) =
        let x = record_of bytes p in
        inr (h, cut_past bytes p h (refused_cut x (row_is x t j) refl))
    go (after_end c h j more is) = absurd (omega (arith, ap (λ x. number_of x.fault) is))
    go (run_out c is) = inl (ap (λ x. x.place) is)

-- The number of a refusal is one of a table's faults, also where 1 is given.
pub fault_number : (bytes : List ℕ) (f : Refusal) → read_of bytes ≡ read.Refused f → of_table (number_of f.fault) ≡ true
fault_number bytes f r = go (dec_le (length bytes) 4096)
  where
    is : (e : Refusal) → f ≡ e → of_table (number_of e.fault) ≡ true → of_table (number_of f.fault) ≡ true
    is e same h = subst (λ x. of_table (number_of x.fault) ≡ true) (sym same) h

    arises : Arises bytes f → of_table (number_of f.fault) ≡ true
    arises (in_record {t} c h j) = let x = record_of bytes f.place in refused_of_table x (row_is x t j)
    arises (after_end c h j more e) = is _ e refl
    arises (run_out c e) = is _ e refl

    long : read_of bytes ≡ read.Refused (record { fault = fault.Length; place = 4096 }) → of_table (number_of f.fault) ≡ true
    long l = let same : f ≡ record { fault = fault.Length; place = 4096 } = cc in is _ same refl

    go : Dec (length bytes ≤ 4096) → of_table (number_of f.fault) ≡ true
    go (yes h) = arises (found bytes h f r)
    go (no h) = long (read_long bytes (omega arith))

-- A refusal at a byte is at the kind byte of a record; for a tail, of the one that begins after the end.
pub fault_place : (bytes : List ℕ) → length bytes ≤ 4096 → (f : Refusal) → read_of bytes ≡ read.Refused f
    → f.place < length bytes → (x : Record) × Memᴰ x (records bytes) × (x.place ≡ f.place)
fault_place bytes short f r h = go (found bytes short f r)
  where
    begins : (at : ℕ) → at < length bytes → Memᴰ (record_of bytes at) (records_at bytes at)
    begins at l = subst (Memᴰ (record_of bytes at)) (sym (records_next bytes at l)) (Memᴰ.head refl)

    go : Arises bytes f → (x : Record) × Memᴰ x (records bytes) × (x.place ≡ f.place)
    go (in_record c _ j) = (record_of bytes f.place, comes_among bytes c _ (begins f.place h), refl)
    go (after_end {at} c l j more is) = (
      record_of bytes (after bytes at),
      comes_among bytes c _
          (subst (Memᴰ (record_of bytes (after bytes at))) (sym (records_next bytes at l))
          (Memᴰ.tail (begins (after bytes at) more))),
      sym (ap (λ x. x.place) is),
    )
    go (run_out c is) = let end = ap (λ x. x.place) is in absurd (omega arith)
