-- Bytes that agree up to a number of them: the reader comes to the same places, and refuses alike.
use Rattle.std.specs.Prelude.{◌≡◌, refl, Bool, true, false, cond, List, ℕ, ◌+◌, ◌≤◌, ◌<◌, length, get_or, take, drop}
use Rattle.std.proofs.Common.{sym, ◌∙◌, ap, subst, arith, length-take, get_or-take, take-take, take-add, drop_at, length-take-le, ne_eqb}
use Rattle.table.specs.Refusal.{number_of}
use Rattle.table.specs.declared.Fault.TheVariants as fault
use Rattle.table.specs.declared.Refusal.{Refusal}
use Rattle.table.specs.declared.Read.TheVariants as read
use Rattle.records.specs.declared.Tally.{Tally}
use Rattle.records.specs.declared.Verdict.TheVariants.{Refused, Last}
use Rattle.records.specs.Rules.{body_size}
use Rattle.wire.specs.Records.{record_at, records_at}
use Rattle.wire.specs.Reading.{judge_of, read_of}
use Rattle.wire.specs.Laws.{onward, check_on, check_out, tail_more}
use Rattle.format.specs.Reach.{record_of, after, stands, reach}
use Rattle.format.specs.Rows.{row_is, refused_number, kind_alone}
use Rattle.format.specs.Coming.{Comes, first, on, Arises, in_record, after_end, run_out, comes_due, found_after, found_tail}

module _ (bytes bytes' : List ℕ) (m : ℕ) (agree : take m bytes ≡ take m bytes') where
  pub same_within : (n : ℕ) → n < m → n < length bytes → n < length bytes'
  same_within n h l = omega (arith, ap length agree, length-take m bytes, length-take m bytes')

  pub same_end : length bytes < m → length bytes' ≡ length bytes
  same_end h = omega (arith, ap length agree, length-take m bytes, length-take m bytes')

  pub same_kind : (at : ℕ) → at < m → get_or bytes at 0 ≡ get_or bytes' at 0
  same_kind at h = sym (get_or-take m bytes at 0 h) ∙ ap (λ l. get_or l at 0) agree ∙ get_or-take m bytes' at 0 h

  pub same_take : (n : ℕ) → n ≤ m → take n bytes ≡ take n bytes'
  same_take n h = sym (take-take n m bytes h) ∙ ap (take n) agree ∙ take-take n m bytes' h

  pub same_record : (at : ℕ) → at < length bytes → after bytes at ≤ m → record_of bytes at ≡ record_of bytes' at
  same_record at h l =
      let size = body_size (get_or bytes at 0) in
      let there = same_within at (omega arith) h in
      let body =
      part size (at + 1) bytes (omega arith) ∙ ap (drop (at + 1)) (same_take (at + 1 + size) l)
      ∙ sym (part size (at + 1) bytes' (omega arith)) in
      (λ i. record { place = at; kind = get_or bytes at 0; body = body i })
      ∙ (λ i. record_at at (same_kind at (omega arith) i) (drop (at + 1) bytes'))
    where
      part : (s n : ℕ) (l : List ℕ) → n ≤ length l → take s (drop n l) ≡ drop n (take (n + s) l)
      part s n l h =
          sym (drop_at (take n l) (take s (drop n l)) n (length-take-le n l h)) ∙ ap (drop n) (sym (take-add n s l))

-- the reader comes to the same places with the same tallies
pub comes_same : (bytes bytes' : List ℕ) {at : ℕ} {t : Tally} → Comes bytes at t → take at bytes ≡ take at bytes'
    → Comes bytes' at t
comes_same bytes bytes' first e = first
comes_same bytes bytes' (on {at} {t} {u} c h j) e =
    subst (λ n. Comes bytes' n u)
    (ap (λ k. at + 1 + body_size k) (sym (same_kind bytes bytes' (after bytes at) e at (omega arith))))
    (on (comes_same bytes bytes' c (same_take bytes bytes' (after bytes at) e at (omega arith)))
    (same_within bytes bytes' (after bytes at) e at (omega arith) h)
    (ap (judge_of t) (sym (same_record bytes bytes' (after bytes at) e at h (omega arith))) ∙ j))

-- what the reader answers where it has come to
module _ (bytes : List ℕ) (short : length bytes ≤ 4096) {at : ℕ} {t : Tally} (c : Comes bytes at t)
    (h : at < length bytes) where
  refused_there : (f : Refusal) → judge_of t (record_of bytes at) ≡ Refused f → read_of bytes ≡ read.Refused f
  refused_there f j =
      sym (comes_due bytes short c) ∙ check_on bytes t at (length bytes) h
      ∙ ap (onward (length bytes) t (records_at bytes (after bytes at))) j

  tail_there : judge_of t (record_of bytes at) ≡ Last → after bytes at < length bytes
      → read_of bytes ≡ read.Refused (record { fault = fault.Tail; place = after bytes at })
  tail_there j more =
      sym (comes_due bytes short c) ∙ check_on bytes t at (length bytes) h
      ∙ ap (onward (length bytes) t (records_at bytes (after bytes at))) j ∙ tail_more bytes t (after bytes at) more

-- how far a refusal of a record is decided
pub reach_record : (bytes : List ℕ) (f : Refusal) (t : Tally) → judge_of t (record_of bytes f.place) ≡ Refused f
    → (b : Bool) → stands f.place (get_or bytes f.place 0) ≡ b
    → reach bytes f ≡ f.place + 1 + cond b (body_size (get_or bytes f.place 0)) 0
reach_record bytes f t j b s =
    let r = record_of bytes f.place in
    let no-tail = ne_eqb (number_of f.fault) 10 (refused_number r (row_is r t j)) in
    λ i. f.place + 1 + cond (no-tail i) 0 (cond (s i) (body_size (get_or bytes f.place 0)) 0)

module _ (bytes bytes' : List ℕ) (f : Refusal) where
  -- the refused record, judged in the other bytes
  judged_same : (t : Tally) → f.place < length bytes → judge_of t (record_of bytes f.place) ≡ Refused f
      → take (reach bytes f) bytes ≡ take (reach bytes f) bytes' → judge_of t (record_of bytes' f.place) ≡ Refused f
  judged_same t h j e = go (stands f.place (get_or bytes f.place 0)) refl
    where
      go : (b : Bool) → stands f.place (get_or bytes f.place 0) ≡ b → judge_of t (record_of bytes' f.place) ≡ Refused f
      go true s =
          let whole = reach_record bytes f t j true s in
          ap (judge_of t) (sym (same_record bytes bytes' (reach bytes f) e f.place h (omega arith))) ∙ j
      go false s =
          let kind = same_kind bytes bytes' (reach bytes f) e f.place (omega arith) in
          (λ i. judge_of t (record { place = f.place; kind = sym kind i; body = (record_of bytes' f.place).body }))
          ∙ sym (kind_alone (record_of bytes f.place) t (record_of bytes' f.place).body s) ∙ j

  -- a refusal is found in both, if they agree as far as it is decided
  pub found_same : length bytes' ≤ 4096 → Arises bytes f → take (reach bytes f) bytes ≡ take (reach bytes f) bytes'
      → read_of bytes' ≡ read.Refused f
  found_same short (in_record {t} c h j) e =
      refused_there bytes' short
      (comes_same bytes bytes' c (same_take bytes bytes' (reach bytes f) e f.place (omega arith)))
      (same_within bytes bytes' (reach bytes f) e f.place (omega arith) h) f (judged_same t h j e)
  found_same short (after_end {at} {t} c h j more is) e =
      let place = ap (λ g. g.place) is in
      let same = same_record bytes bytes' (reach bytes f) e at h (omega arith) in
      let next : after bytes' at ≡ after bytes at = ap (λ r. at + 1 + body_size r.kind) (sym same) in
      let more' = same_within bytes bytes' (reach bytes f) e (after bytes at) (omega arith) more in
      tail_there bytes' short (comes_same bytes bytes' c (same_take bytes bytes' (reach bytes f) e at (omega arith)))
      (same_within bytes bytes' (reach bytes f) e at (omega arith) h) (ap (judge_of t) (sym same) ∙ j) (omega arith)
      ∙ ap (λ n. read.Refused (record { fault = fault.Tail; place = n })) next ∙ ap read.Refused (sym is)
  found_same short (run_out {t} c is) e =
      let place = ap (λ g. g.place) is in
      let same = same_end bytes bytes' (reach bytes f) e (omega arith) in
      sym (comes_due bytes' short
      (comes_same bytes bytes' c (same_take bytes bytes' (reach bytes f) e (length bytes) (omega arith))))
      ∙ check_out bytes' t (length bytes) (length bytes') (omega arith)
      ∙ ap (λ n. read.Refused (record { fault = fault.Cut; place = n })) same ∙ ap read.Refused (sym is)

  -- none is found before, if they agree up to its place
  pub found_before : length bytes' ≤ 4096 → Arises bytes f → take f.place bytes ≡ take f.place bytes'
      → (g : Refusal) → read_of bytes' ≡ read.Refused g → f.place ≤ g.place
  found_before short (in_record c h j) e g r = (found_after bytes' short (comes_same bytes bytes' c e) g r).0
  found_before short (after_end {at} {t} c h j more is) e g r =
      let place = ap (λ x. x.place) is in
      let same = same_record bytes bytes' f.place e at h (omega arith) in
      let next : after bytes' at ≡ after bytes at = ap (λ x. at + 1 + body_size x.kind) (sym same) in
      let there =
      found_tail bytes' short (comes_same bytes bytes' c (same_take bytes bytes' f.place e at (omega arith)))
      (same_within bytes bytes' f.place e at (omega arith) h) (ap (judge_of t) (sym same) ∙ j) g r in
      omega arith
  found_before short (run_out c is) e g r =
      let place = ap (λ x. x.place) is in
      let there =
      (found_after bytes' short
      (comes_same bytes bytes' c (same_take bytes bytes' f.place e (length bytes) (omega arith))) g r).0 in
      omega arith
