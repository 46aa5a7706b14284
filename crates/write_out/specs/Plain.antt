-- The table without stretches that accepted bytes mean, as bytes: what is written, and what it is to a reader.
use Rattle.std.specs.Prelude.{◌≡◌, refl, cond, List, [], ◌∷◌, ◌++◌, ℕ, ◌≤◌, ◌<◌, ltb}
use Rattle.std.proofs.Common.{sym, ap, subst, ◌∙◌, lt-ltb, le-ltb}
use mathlib.Core.List.Memᴰ
use Rattle.table.specs.declared.Read.{Read}
use Rattle.table.specs.declared.Read.TheVariants as read
use Rattle.wire.specs.Records.{Bytes}
use Rattle.wire.specs.Reading.{read_of}
use Rattle.wire.specs.Listing.{Entry, Listing, listing}
use Rattle.format.specs.Encode.{step_bytes, steps_bytes, encode, LegalSteps, Legal}
use Rattle.format.proofs.Accepted.{accepted_written}
use Rattle.stretches.specs.Reading.{read_out}
use Rattle.stretches.specs.Tree.{Items, none, step, items_on, encode_items, expand, Sound, sound_none, sound_step}
use Rattle.stretches.specs.Listing.{written_out}
use Rattle.stretches.proofs.Meaning.{written_out_lem, means_plain}

-- of refused bytes there is none
abbrev pub of_answer : Read → List ℕ → List ℕ
of_answer (read.Refused f) bytes = []
of_answer (read.Counted n L g) bytes = encode (written_out bytes)

unfoldable pub plain_of : List ℕ → List ℕ
plain_of bytes = of_answer (read_out bytes) bytes

-- what is written to a room: nothing where it has fewer places than the longest table
unfoldable pub written_in : ℕ → List ℕ → List ℕ
written_in room bytes = cond (ltb room 531) [] (plain_of bytes)

-- accepted bytes
pub record Accepted (bytes : List ℕ) : Type 0 where
  pub clocks : ℕ
  pub steps : ℕ
  pub guards : ℕ
  pub counted : read_out bytes ≡ read.Counted clocks steps guards

-- ---- by the answer
pub plain_answer : (bytes : List ℕ) (a : Read) → read_out bytes ≡ a → of_answer a bytes ≡ plain_of bytes
unfolding plain_of
plain_answer bytes a e = ap (λ x. of_answer x bytes) (sym e)

pub plain_accepted : (bytes : List ℕ) → Accepted bytes → encode (written_out bytes) ≡ plain_of bytes
plain_accepted bytes a = plain_answer bytes _ a.counted

pub written_short : (room : ℕ) (bytes : List ℕ) → room < 531 → [] ≡ written_in room bytes
unfolding written_in
written_short room bytes h = rw (lt-ltb room 531 h)

pub written_answer : (room : ℕ) (bytes : List ℕ) (a : Read) → 531 ≤ room → read_out bytes ≡ a → of_answer a bytes ≡ written_in room bytes
unfolding written_in
written_answer room bytes a h e = rw (le-ltb room 531 h) (plain_answer bytes a e)

-- The table written out is accepted, with the same counts, and it is the one that the bytes mean.
pub plain_read : (bytes : List ℕ) → Bytes bytes → (n L g : ℕ) → read_out bytes ≡ read.Counted n L g
    → (read_of (plain_of bytes) ≡ read.Counted n L g) × (listing (plain_of bytes) ≡ written_out bytes)
plain_read bytes small n L g e =
    subst (λ bs. (read_of bs ≡ read.Counted n L g) × (listing bs ≡ written_out bytes)) (plain_answer bytes (read.Counted n L g) e)
    (means_plain bytes small n L g e)

-- ---- bytes without stretches are what they mean
unfoldable plain_items : List (List Entry) → Items
plain_items [] = none
plain_items (s ∷ ss) = step s (plain_items ss)

plain_on : (ss : List (List Entry)) → items_on (plain_items ss) (5 ∷ []) ≡ steps_bytes ss
unfolding items_on steps_bytes plain_items
plain_on [] = refl
plain_on (s ∷ ss) = ap (λ l. step_bytes s ++ l) (plain_on ss)

plain_expand : (ss : List (List Entry)) → expand (plain_items ss) ≡ ss
unfolding expand plain_items
plain_expand [] = refl
plain_expand (s ∷ ss) = ap (λ l. s ∷ l) (plain_expand ss)

plain_sound : (n : ℕ) (ss : List (List Entry)) → LegalSteps n ss → Sound n 0 (plain_items ss)
unfolding plain_items
plain_sound n [] legal = sound_none 0
plain_sound n (s ∷ ss) legal =
    sound_step 0 s (plain_items ss) (legal s (Memᴰ.head refl)) (plain_sound n ss (λ x m. legal x (Memᴰ.tail m)))

encoded_out : (l : Listing) → Legal l → written_out (encode l) ≡ l
unfolding encode encode_items
encoded_out l legal =
    ap (λ bs. written_out (1 ∷ l.clocks ∷ bs)) (sym (plain_on l.steps))
    ∙ written_out_lem l.clocks (plain_items l.steps) (plain_sound l.clocks l.steps legal.each)
    ∙ (λ i. record { clocks = l.clocks; steps = plain_expand l.steps i })

-- Bytes that are accepted without a stretch are the table written out.
pub plain_same : (bytes : List ℕ) → Bytes bytes → (n L g : ℕ) → read_out bytes ≡ read.Counted n L g → read_of bytes ≡ read.Counted n L g
    → bytes ≡ plain_of bytes
plain_same bytes small n L g e f =
    let w = accepted_written bytes small n L g f in
    let out : written_out bytes ≡ listing bytes = ap written_out (sym w.written) ∙ encoded_out (listing bytes) w.legal in
    sym w.written ∙ ap encode (sym out) ∙ plain_answer bytes (read.Counted n L g) e
