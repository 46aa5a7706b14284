-- How far the bytes go that decide a refusal.
use Rattle.std.specs.Prelude.{Bool, cond, ◌&&◌, List, ℕ, ◌+◌, eqb, get_or, drop}
use Rattle.table.specs.Refusal.{number_of}
use Rattle.table.specs.declared.Refusal.{Refusal}
use Rattle.records.specs.Rules.{body_size, within, agree}
use Rattle.wire.specs.Records.{Record, record_at}

-- the record that begins at a place, and the place after it
abbrev pub record_of : List ℕ → ℕ → Record
record_of bytes at = record_at at (get_or bytes at 0) (drop (at + 1) bytes)

abbrev pub after : List ℕ → ℕ → ℕ
after bytes at = at + 1 + body_size (get_or bytes at 0)

-- whether a kind may stand at a place: it is one, and a head if it is the first, and only then
abbrev pub stands : ℕ → ℕ → Bool
stands place kind = within 1 kind 5 && agree (eqb place 0) (eqb kind 1)

-- Up to the end of the record at the place of the refusal; only up to its kind byte if the kind may not stand there, or if
-- it comes after the end (10, tail).
abbrev pub reach : List ℕ → Refusal → ℕ
reach bytes f =
    let kind = get_or bytes f.place 0 in
    f.place + 1 + cond (eqb (number_of f.fault) 10) 0 (cond (stands f.place kind) (body_size kind) 0)
