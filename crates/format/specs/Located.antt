-- The records found in bytes.
use Rattle.std.specs.Prelude.{◌≡◌, refl, ℕ, zero, suc, ◌+◌, ◌≤◌, ◌<◌, length, get_or, take, drop}
use Rattle.std.proofs.Common.{sym, ◌∙◌, ap, subst, ⊎_elim, arith, length-take, take-append-drop, get_or-drop}
use mathlib.Core.List.Memᴰ
use mathlib.Core.List.{List, [], ◌∷◌, ◌++◌, Memᴰ}
use Rattle.records.specs.Rules.{body_size}
use Rattle.wire.specs.Records.{Bytes, Record, record_at, records_from}

-- a record found in bytes at a place or after it: its body is no longer than its kind says, and made of bytes
pub record Located (at : ℕ) (r : Record) : Type 0 where
  pub from : at ≤ r.place
  pub size : length r.body ≤ body_size r.kind
  pub small : Bytes r.body

-- the bytes of records
unfoldable pub bytes_in : List Record → List ℕ
bytes_in [] = []
bytes_in (r ∷ rs) = r.kind ∷ r.body ++ bytes_in rs

-- in the records of bytes none of these is lost
pub bytes_in_lem : (skip at : ℕ) (bs : List ℕ) → bytes_in (records_from skip at bs) ≡ drop skip bs
unfolding records_from bytes_in
bytes_in_lem zero at [] = refl
bytes_in_lem (suc skip) at [] = refl
bytes_in_lem zero at (k ∷ rest) =
    ap (λ bs. k ∷ take (body_size k) rest ++ bs) (bytes_in_lem (body_size k) (at + 1) rest)
    ∙ ap (λ bs. k ∷ bs) (take-append-drop (body_size k) rest)
bytes_in_lem (suc skip) at (b ∷ rest) = bytes_in_lem skip (at + 1) rest

bytes_take : (n : ℕ) (bs : List ℕ) → Bytes bs → Bytes (take n bs)
bytes_take zero bs h i = omega arith
bytes_take (suc n) [] h i = omega arith
bytes_take (suc n) (b ∷ bs) h zero = h 0
bytes_take (suc n) (b ∷ bs) h (suc i) = bytes_take n bs (λ j. h (suc j)) i

-- the record at a place is found there
pub located_at : (at k : ℕ) (rest : List ℕ) → Bytes rest → Located at (record_at at k rest)
located_at at k rest h =
    record {
      from = omega arith;
      size = omega (arith, length-take (body_size k) rest);
      small = bytes_take (body_size k) rest h;
    }

-- so is the one that begins at a place of bytes
pub located_here : (bytes : List ℕ) (at : ℕ) → Bytes bytes → Located at (record_at at (get_or bytes at 0) (drop (at + 1) bytes))
located_here bytes at small =
    located_at at (get_or bytes at 0) (drop (at + 1) bytes)
    (λ i. subst (λ b. b < 256) (sym (get_or-drop (at + 1) bytes i 0)) (small (at + 1 + i)))

located_later : {at : ℕ} {r : Record} → Located (at + 1) r → Located at r
located_later f = let h = f.from in record { from = omega arith; size = f.size; small = f.small }

-- and so is each of the records
pub located : (skip at : ℕ) (bs : List ℕ) → Bytes bs → (r : Record) → Memᴰ r (records_from skip at bs) → Located at r
unfolding records_from
located zero at [] h r m = absurd (Memᴰ.not-nil m)
located (suc skip) at [] h r m = absurd (Memᴰ.not-nil m)
located zero at (k ∷ rest) h r m =
    ⊎_elim (λ e. subst (Located at) (sym e) (located_at at k rest (λ i. h (suc i))))
    (λ o. located_later (located (body_size k) (at + 1) rest (λ i. h (suc i)) r o))
    (Memᴰ.cases_cons m)
located (suc skip) at (b ∷ rest) h r m = located_later (located skip (at + 1) rest (λ i. h (suc i)) r m)
