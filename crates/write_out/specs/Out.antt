-- How the bytes of the table written out are put together: the head, the items, and the end.
use Rattle.std.specs.Prelude.{◌≡◌, refl, List, [], ◌∷◌, ◌++◌, ℕ, ◌+◌, ◌-◌, ◌≤◌, ◌<◌, set, drop}
use Rattle.std.proofs.Common.{sym, ◌∙◌, append_assoc, arith, zero-add, length-append, take_at, drop_at}
use Rattle.std.proofs.Math.Path.{ap, subst}
use Rattle.std.proofs.Math.Nat.{sub-zero}
use Rattle.std.proofs.Math.ListN.{length, take}
use Rattle.std.proofs.Math.Seq.{length-take-le}
use Rattle.wire.specs.Records.{Bytes}
use Rattle.wire.specs.Listing.{Entry}
use Rattle.format.specs.Encode.{step_bytes, steps_bytes, encode}
use Rattle.format.proofs.Longest as plain
use Rattle.text.specs.Over as text
use Rattle.stretches.specs.Tree.{Items, encode_items, expand, Sound, sound_none, sound_step, sound_stretch}
use Rattle.stretches.specs.Laws.{out_counted}
use Rattle.stretches.specs.Accepted.{Written, accepted_written}
use Rattle.stretches.specs.Listing.{written_out}
use Rattle.stretches.proofs.Meaning.{written_out_lem, accepted_counted}
use Rattle.write_out.specs.Plain.{plain_of, Accepted, plain_accepted}
use Rattle.write_out.specs.Due.{bytes_of, plain_bytes, Often, often_none, often_step, often_stretch, ends_table, Due, Writes}

pub sound_often : {n d : ℕ} {is : Items} → Sound n d is → Often is
sound_often (sound_none _) = often_none
sound_often (sound_step _ es is legal s) = often_step es is (sound_often s)
sound_often (sound_stretch _ times js is low high deep some inner s) = often_stretch times js is (omega arith) (sound_often inner) (sound_often s)

steps_bytes_lem : (ss : List (List Entry)) → bytes_of ss ++ (5 ∷ []) ≡ steps_bytes ss
unfolding bytes_of steps_bytes
steps_bytes_lem [] = refl
steps_bytes_lem (s ∷ ss) = append_assoc (step_bytes s) (bytes_of ss) (5 ∷ []) ∙ ap (λ l. step_bytes s ++ l) (steps_bytes_lem ss)

module _ (bytes : List ℕ) (small : Bytes bytes) (a : Accepted bytes) where
  pub w : Written bytes a.clocks a.steps a.guards
  w = accepted_written bytes small a.clocks a.steps a.guards a.counted

  parts : take 2 bytes ++ (plain_bytes w.items ++ (5 ∷ [])) ≡ encode (written_out bytes)
  unfolding encode encode_items
  parts =
      ap (λ bs. take 2 bs ++ (plain_bytes w.items ++ (5 ∷ []))) (sym w.written)
      ∙ ap (λ l. 1 ∷ a.clocks ∷ l) (steps_bytes_lem (expand w.items))
      ∙ ap encode (sym (written_out_lem a.clocks w.items w.sound) ∙ ap written_out w.written)

  few : length (encode (written_out bytes)) ≤ 531
  few = plain.longest (written_out bytes) (accepted_counted bytes small a.clocks a.steps a.guards a.counted).legal

  pub head_there : 2 ≤ length bytes
  unfolding encode_items
  head_there = subst (λ bs. 2 ≤ length bs) w.written (omega arith)

  pub long : 2 + (length (plain_bytes w.items) + 1) ≤ 531
  long =
      omega (
        arith,
        few,
        ap length parts,
        length-append (take 2 bytes) (plain_bytes w.items ++ (5 ∷ [])),
        length-append (plain_bytes w.items) (5 ∷ []),
        length-take-le 2 bytes head_there,
      )

  -- after the head, the items are due
  unfoldable pub items_due : (old mid : List ℕ) (head : ℕ) → 531 ≤ length old → text.Written old 0 (take 2 bytes) mid head
      → Due bytes 2 (length mid) head
  unfolding encode_items
  items_due old mid head h front = record {
    items = w.items;
    rest = 5 ∷ [];
    begins = ap (drop 2) (sym w.written);
    ends = ends_table [];
    often = sound_often w.sound;
    fits = omega (arith, long, front.place, length-take-le 2 bytes head_there, text.written_length front);
    short = (out_counted bytes a.counted).0;
  }

  -- and after them the end: there is room for it, and then all is written
  pub all_written : (old mid now : List ℕ) (head at end : ℕ) → 531 ≤ length old → text.Written old 0 (take 2 bytes) mid head
      → Writes bytes 2 head mid now at end
      → (end < length now) × (end < 531) × text.Written old 0 (encode (written_out bytes)) (set now end 5) (end + 1)
  unfolding items_due
  all_written old mid now head at end h front items =
      let x = (items.each (items_due old mid head h front)).written in
      let low : end < 531 = omega (arith, x.place, long, front.place, length-take-le 2 bytes head_there) in (
        omega (arith, low, text.written_length x, text.written_length front),
        low,
        text.written_as
            (append_assoc (take 2 bytes) (plain_bytes w.items) (5 ∷ []) ∙ parts)
            (text.written_then (text.written_then front x) (text.written_one now end 5)),
      )

-- The first places of the room hold the table written out, and the rest of it is kept.
pub out_front : (bytes : List ℕ) → Bytes bytes → Accepted bytes → (old now : List ℕ) (end : ℕ) → 531 ≤ length old
    → text.Written old 0 (encode (written_out bytes)) now end
    → (end ≡ length (encode (written_out bytes))) × (end ≤ length now) × (take end now ≡ encode (written_out bytes)) × (drop end now ≡ drop end old)
out_front bytes small a old now end h x =
    let size : end ≡ length (encode (written_out bytes)) = x.place ∙ zero-add (length (encode (written_out bytes))) in
    let most : end ≤ length old = omega (arith, size, few bytes small a) in
    let e = (text.written_front x most).1 in (
      size,
      omega (arith, most, text.written_length x),
      ap (take end) e ∙ take_at (encode (written_out bytes)) (drop end old) end (sym size),
      ap (drop end) e ∙ drop_at (encode (written_out bytes)) (drop end old) end (sym size),
    )

-- so is the part of it that a slice takes
pub out_part : (bytes : List ℕ) → Bytes bytes → Accepted bytes → (old now : List ℕ) (end : ℕ) → 531 ≤ length old
    → text.Written old 0 (encode (written_out bytes)) now end → take (end - 0) now ≡ plain_of bytes
out_part bytes small a old now end h x =
    ap (λ k. take k now) (sub-zero end) ∙ (out_front bytes small a old now end h x).2 ∙ plain_accepted bytes a
