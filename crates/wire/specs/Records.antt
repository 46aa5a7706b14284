-- Bytes to records: order kept, each with its place. No record is judged here.
use Rattle.std.specs.Prelude.{◌≡◌, List, [], ◌∷◌, ℕ, zero, suc, ◌+◌, ◌≤◌, ◌<◌, length, get_or, take, drop}
use Rattle.std.proofs.Math.Path.{refl}
use Rattle.std.proofs.Common.{sym, ◌∙◌, ap, arith, add-one, drop_of_length-le, drop-cons, drop-drop}
use Rattle.records.specs.Rules.{body_size}

-- every number is a byte
abbrev pub Bytes : List ℕ → Type 0
Bytes bytes = (i : ℕ) → get_or bytes i 0 < 256

-- A record as it stands: the place of its kind byte, the kind, and its body, cut short where the bytes run out.
pub record Record : Type 0 where
  pub place : ℕ
  pub kind : ℕ
  pub body : List ℕ

-- the record that begins at a place with a kind byte, before the bytes given
abbrev pub record_at : ℕ → ℕ → List ℕ → Record
record_at at k rest = record { place = at; kind = k; body = take (body_size k) rest }

-- the records of the bytes from a place on, of which the first few still belong to the body of the record before
unfoldable pub records_from : ℕ → ℕ → List ℕ → List Record
records_from skip at [] = []
records_from zero at (k ∷ rest) = record_at at k rest ∷ records_from (body_size k) (at + 1) rest
records_from (suc skip) at (b ∷ rest) = records_from skip (at + 1) rest

-- the records of a table's bytes
abbrev pub records : List ℕ → List Record
records bytes = records_from 0 0 bytes

-- the body of the record before is passed at once
skipped : (skip at : ℕ) (bs : List ℕ) → records_from skip at bs ≡ records_from 0 (at + skip) (drop skip bs)
unfolding records_from
skipped zero at [] = refl
skipped (suc skip) at [] = refl
skipped zero at (b ∷ bs) = ap (λ n. records_from 0 n (b ∷ bs)) (omega arith)
skipped (suc skip) at (b ∷ bs) =
    skipped skip (at + 1) bs ∙ ap (λ n. records_from 0 n (drop skip bs)) (omega arith)

-- the records that begin at a place or after it
abbrev pub records_at : List ℕ → ℕ → List Record
records_at bytes at = records_from 0 at (drop at bytes)

pub records_none : (bytes : List ℕ) (at : ℕ) → length bytes ≤ at → records_at bytes at ≡ []
unfolding records_from
records_none bytes at h = rw (drop_of_length-le bytes h)

pub records_next : (bytes : List ℕ) (at : ℕ) → at < length bytes
    → records_at bytes at ≡ record_at at (get_or bytes at 0) (drop (at + 1) bytes) ∷ records_at bytes (at + 1 + body_size (get_or bytes at 0))
records_next bytes at h =
    ap (records_from 0 at) (drop-cons bytes at 0 h ∙ ap (λ n. kind ∷ drop n bytes) (sym (add-one at)))
    ∙ first kind rest
    ∙ ap (λ rs. record_at at kind rest ∷ rs)
    (skipped size (at + 1) rest ∙ ap (records_from 0 (at + 1 + size)) (drop-drop size (at + 1) bytes))
  where
    kind : ℕ
    kind = get_or bytes at 0

    rest : List ℕ
    rest = drop (at + 1) bytes

    size : ℕ
    size = body_size kind

    first : (k : ℕ) (bs : List ℕ) → records_from 0 at (k ∷ bs) ≡ record_at at k bs ∷ records_from (body_size k) (at + 1) bs
    first k bs = unfold records_from in refl
