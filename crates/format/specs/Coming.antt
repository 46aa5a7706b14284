-- The way of the reader through bytes: the places that it comes to, and where it finds a fault.
use Rattle.std.specs.Prelude.{◌≡◌, refl, ℕ, zero, suc, ◌+◌, ◌≤◌, ◌<◌, length, get_or, drop}
use Rattle.std.proofs.Common.{sym, ◌∙◌, ap, subst, arith, length-take, length-drop}
use mathlib.Core.List.{List, Memᴰ}
use Rattle.std.proofs.Math.Decide.{dec_le}
use Rattle.table.specs.declared.Fault.TheVariants as fault
use Rattle.table.specs.declared.Refusal.{Refusal}
use Rattle.table.specs.declared.Read.TheVariants as read
use Rattle.records.specs.declared.Tally.{Tally}
use Rattle.records.specs.declared.Verdict.{Verdict}
use Rattle.records.specs.declared.Verdict.TheVariants.{Refused, Next, Last}
use Rattle.records.specs.Rules.{body_size}
use Rattle.wire.specs.Records.{Record, records_at, records, records_next}
use Rattle.records.specs.Checking.{start}
use Rattle.wire.specs.Reading.{judge_of, tail, check, read_of}
use Rattle.wire.specs.Laws.{onward, check_on, check_out, tail_more, tail_none, read_short}
use Rattle.format.specs.Shapes.{refused_counted}
use Rattle.format.specs.Reach.{record_of, after}
use Rattle.format.specs.Rows.{row_is, next_whole, refused_place}

-- The reader comes to a place with a tally: every record before it is accepted, and none of them is the end.
pub data Comes (bytes : List ℕ) : ℕ → Tally → Type 0 where
  first : Comes bytes 0 start
  on : {at : ℕ} {t u : Tally} → Comes bytes at t → at < length bytes → judge_of t (record_of bytes at) ≡ Next u
      → Comes bytes (after bytes at) u

-- Where a refusal is found: at a record that the reader comes to; after the end; or where the bytes run out.
pub data Arises (bytes : List ℕ) (f : Refusal) : Type 0 where
  in_record : {t : Tally} → Comes bytes f.place t → f.place < length bytes
      → judge_of t (record_of bytes f.place) ≡ Refused f → Arises bytes f
  after_end : {at : ℕ} {t : Tally} → Comes bytes at t → at < length bytes → judge_of t (record_of bytes at) ≡ Last
      → after bytes at < length bytes → f ≡ record { fault = fault.Tail; place = after bytes at } → Arises bytes f
  run_out : {t : Tally} → Comes bytes (length bytes) t → f ≡ record { fault = fault.Cut; place = length bytes }
      → Arises bytes f

module _ (bytes : List ℕ) where
  -- a whole record is within the bytes, and one that is cut is not
  pub whole_within : (at : ℕ) → at < length bytes → body_size (get_or bytes at 0) ≤ length (record_of bytes at).body
      → after bytes at ≤ length bytes
  whole_within at h l = omega (arith, length-take (body_size (get_or bytes at 0)) (drop (at + 1) bytes), length-drop (at + 1) bytes)

  pub cut_past : (at : ℕ) → at < length bytes → length (record_of bytes at).body < body_size (get_or bytes at 0)
      → length bytes < after bytes at
  cut_past at h l = omega (arith, length-take (body_size (get_or bytes at 0)) (drop (at + 1) bytes), length-drop (at + 1) bytes)

  comes_within : {at : ℕ} {t : Tally} → Comes bytes at t → at ≤ length bytes
  comes_within first = omega arith
  comes_within (on {at} {t} c h j) = whole_within at h (next_whole (record_of bytes at) (row_is (record_of bytes at) t j))

  -- the answer of all bytes is due from there
  pub comes_due : length bytes ≤ 4096 → {at : ℕ} {t : Tally} → Comes bytes at t
      → check (length bytes) t (records_at bytes at) ≡ read_of bytes
  comes_due short first = sym (read_short bytes short)
  comes_due short (on {at} {t} {u} c h e) =
      ap (onward (length bytes) t (records_at bytes (after bytes at))) (sym e)
      ∙ sym (check_on bytes t at (length bytes) h) ∙ comes_due short c

  -- a refusal that is due from a place: where the bytes run out; after the end; at a record; or later
  abbrev Due : ℕ → Refusal → Type 0
  Due at f = (at ≤ f.place) × Arises bytes f

  due_out : {at : ℕ} {t : Tally} → Comes bytes at t → length bytes ≤ at → (f : Refusal)
      → check (length bytes) t (records_at bytes at) ≡ read.Refused f → Due at f
  due_out {at} {t} c h f e =
      let here : at ≡ length bytes = omega (arith, comes_within c) in
      let out = check_out bytes t at (length bytes) h in
      let same : f ≡ record { fault = fault.Cut; place = length bytes } = cc in
      (omega (arith, ap (λ g. g.place) same), run_out (subst (λ n. Comes bytes n t) here c) same)

  due_after : {at : ℕ} {t : Tally} → Comes bytes at t → at < length bytes → judge_of t (record_of bytes at) ≡ Last
      → (f : Refusal) → tail t (records_at bytes (after bytes at)) ≡ read.Refused f → Due (after bytes at) f
  due_after {at} {t} c h j f e = go (dec_le (length bytes) (after bytes at))
    where
      go : Dec (length bytes ≤ after bytes at) → Due (after bytes at) f
      go (yes l) = refused_counted (sym e ∙ tail_none bytes t (after bytes at) l)
      go (no l) =
          let more : after bytes at < length bytes = omega arith in
          let told = tail_more bytes t (after bytes at) more in
          let same : f ≡ record { fault = fault.Tail; place = after bytes at } = cc in
          (omega (arith, ap (λ g. g.place) same), after_end c h j more same)

  due_record : {at : ℕ} {t : Tally} → Comes bytes at t → at < length bytes → (f : Refusal)
      → ((u : Tally) → Comes bytes (after bytes at) u
      → check (length bytes) u (records_at bytes (after bytes at)) ≡ read.Refused f → Due (after bytes at) f)
      → (v : Verdict) → judge_of t (record_of bytes at) ≡ v
      → onward (length bytes) t (records_at bytes (after bytes at)) v ≡ read.Refused f → Due at f
  due_record {at} {t} c h f rest (Refused g) j e =
      let same : g ≡ f = cc in
      let r = record_of bytes at in
      let here : at ≡ f.place = sym (refused_place r (row_is r t j)) ∙ ap (λ x. x.place) same in (
        omega arith,
        in_record (subst (λ n. Comes bytes n t) here c) (omega arith)
            (ap (λ n. judge_of t (record_of bytes n)) (sym here) ∙ j ∙ ap Refused same),
      )
  due_record c h f rest (Next u) j e = let d = rest u (on c h j) e in (omega (arith, d.0), d.1)
  due_record c h f rest Last j e = let d = due_after c h j f e in (omega (arith, d.0), d.1)

  due_here : {at : ℕ} {t : Tally} → Comes bytes at t → (f : Refusal)
      → (at < length bytes → (u : Tally) → Comes bytes (after bytes at) u
      → check (length bytes) u (records_at bytes (after bytes at)) ≡ read.Refused f → Due (after bytes at) f)
      → check (length bytes) t (records_at bytes at) ≡ read.Refused f → Due at f
  due_here {at} {t} c f rest e = go (dec_le (length bytes) at)
    where
      go : Dec (length bytes ≤ at) → Due at f
      go (yes l) = due_out c l f e
      go (no l) =
          let h : at < length bytes = omega arith in
          due_record c h f (rest h) (judge_of t (record_of bytes at)) refl (sym (check_on bytes t at (length bytes) h) ∙ e)

  due : (n : ℕ) {at : ℕ} {t : Tally} → Comes bytes at t → length bytes ≤ at + n → (f : Refusal)
      → check (length bytes) t (records_at bytes at) ≡ read.Refused f → Due at f
  due zero c fuel f e = due_out c (omega arith) f e
  due (suc n) c fuel f e = due_here c f (λ h u d q. due n d (omega arith) f q) e

  -- a refusal is found where it is due: not before a place that the reader comes to, nor before the end of the table
  pub found_after : length bytes ≤ 4096 → {at : ℕ} {t : Tally} → Comes bytes at t → (f : Refusal)
      → read_of bytes ≡ read.Refused f → (at ≤ f.place) × Arises bytes f
  found_after short c f e = due (length bytes) c (omega arith) f (comes_due short c ∙ e)

  pub found_tail : length bytes ≤ 4096 → {at : ℕ} {t : Tally} → Comes bytes at t → at < length bytes
      → judge_of t (record_of bytes at) ≡ Last → (f : Refusal) → read_of bytes ≡ read.Refused f → after bytes at ≤ f.place
  found_tail short {at} {t} c h j f e =
      (due_after c h j f
      (ap (onward (length bytes) t (records_at bytes (after bytes at))) (sym j)
      ∙ sym (check_on bytes t at (length bytes) h) ∙ comes_due short c ∙ e)).0

  pub found : length bytes ≤ 4096 → (f : Refusal) → read_of bytes ≡ read.Refused f → Arises bytes f
  found short f e = (found_after short first f e).1

  -- the records from where it comes to are among the records of all bytes
  pub comes_among : {at : ℕ} {t : Tally} → Comes bytes at t → (r : Record) → Memᴰ r (records_at bytes at)
      → Memᴰ r (records bytes)
  comes_among first r m = m
  comes_among (on {at} c h j) r m =
      comes_among c r (subst (Memᴰ r) (sym (records_next bytes at h)) (Memᴰ.tail m))
