-- The lines of a card one by one, as they are found: what is left to judge, and what is left to write.
use Rattle.std.specs.Prelude.{◌≡◌, refl, cond, ◌⊎◌, List, [], ◌∷◌, ◌++◌, ℕ, ◌+◌, ◌≤◌, ◌<◌, ltb, length, drop}
use Rattle.std.proofs.Math.Path.{sym, ap}
use Rattle.std.proofs.Common.{◌∙◌, inl, inr, arith, length-drop, drop_of_length-le}
use Rattle.std.proofs.Math.Option.{none, some}
use Rattle.table.specs.declared.Fault.TheVariants as fault
use Rattle.table.specs.declared.Refusal.{Refusal}
use Rattle.table.specs.declared.Read.{Read}
use Rattle.table.specs.declared.Read.TheVariants as read
use Rattle.text.specs.Over as over
use Rattle.records.specs.declared.Tally.{Tally}
use Rattle.records.specs.declared.Verdict.{Verdict}
use Rattle.records.specs.declared.Verdict.TheVariants as verdict
use Rattle.records.specs.Checking.{tail_of, onward_of, check_judged}
use Rattle.wire.specs.Records.{Bytes}
use Rattle.wire.specs.Listing.{Content}
use Rattle.cards.specs.declared.Converted.{Converted}
use Rattle.cards.specs.declared.Converted.TheVariants.{Written, Refused}
use Rattle.cards.specs.Card.{Line, lines_at, judge_line, check_lines, card_read}
use Rattle.cards.specs.Convert.{record_bytes, bytes_of, table_of}
use Rattle.cards.specs.LineByLine.{line, WithText, WithWrong, line_cases, lines_none, lines_text}
use Rattle.cards.specs.Small.{next_small, last_small}
use Rattle.card_lines.specs.declared.Found.{Found}
use Rattle.card_lines.specs.Fronts.{Fronts, is_wrong, is_line, found_of}
use Rattle.card_reading.specs.Judged.{judge_found, found_bytes, judge_found_lem, found_bytes_lem, found_next}

-- What drafting a card comes to: its first fault; or its table is written at the front of the draft, and so long.
pub data Drafted (text before : List ℕ) : Converted → List ℕ → Type 0 where
  refuses : (f : Refusal) (after : List ℕ) → card_read text ≡ read.Refused f → Drafted text before (Refused f) after
  drafts : (n l g m : ℕ) (after : List ℕ) → card_read text ≡ read.Counted n l g → over.Written before 0 (table_of text) after m
      → Drafted text before (Written m) after

-- the answer after the end, where a text of a length goes on at a place, or does not
unfoldable pub closing : ℕ → ℕ → ℕ → Converted
closing len at n = cond (ltb at len) (Refused (record { fault = fault.Tail; place = at })) (Written n)

-- a verdict is one of three
refused_next : {A : Type 0} {f : Refusal} {u : Tally} → verdict.Refused f ≡ verdict.Next u → A
refused_next e = let z : ◌≡◌ {A = ℕ} 0 1 = cc in absurd (omega arith)

refused_last : {A : Type 0} {f : Refusal} → verdict.Refused f ≡ verdict.Last → A
refused_last e = let z : ◌≡◌ {A = ℕ} 0 1 = cc in absurd (omega arith)

module _ (text : List ℕ) where
  -- the lines from a place on
  abbrev pub lines_on : ℕ → List Line
  lines_on at = lines_at at (drop at text)

  module _ (len : ℕ) (t : Tally) (few : t.clocks ≤ 6) (at : ℕ) where
    abbrev left : Verdict → List Line → Read
    left v ls = onward_of (λ l. l.place) judge_line len t ls v

    -- a line that is found is judged, and then the others
    found_due : (c : Content) (next : ℕ) (v : Verdict) → lines_on at ≡ line at (some c) ∷ lines_on next
        → judge_found t at (found_of c next) ≡ v → check_lines len t (lines_on at) ≡ left v (lines_on next)
    found_due c next v is e =
        ap (check_lines len t) is
        ∙ check_judged (λ l. l.place) judge_line len t (line at (some c)) (lines_on next) v (sym (judge_found_lem t at c next few) ∙ e)

    wrong_due : (ls : List Line) → lines_on at ≡ line at none ∷ ls
        → check_lines len t (lines_on at) ≡ read.Refused (record { fault = fault.Card; place = at })
    wrong_due ls is =
        ap (check_lines len t) is ∙ check_judged (λ l. l.place) judge_line len t (line at none) ls _ refl

    -- it is refused,
    pub refused_there : {f : Found} → Fronts text at f → (r : Refusal) → judge_found t at f ≡ verdict.Refused r
        → check_lines len t (lines_on at) ≡ read.Refused r
    unfolding judge_found
    refused_there (is_wrong ls is) r e = wrong_due ls is ∙ refusal e
      where
        refusal : verdict.Refused (record { fault = fault.Card; place = at }) ≡ verdict.Refused r
            → read.Refused (record { fault = fault.Card; place = at }) ≡ read.Refused r
        refusal e = let same : record { fault = fault.Card; place = at } ≡ r = cc in ap read.Refused same
    refused_there (is_line c next is later within) r e = found_due c next _ is e

    -- What the program goes on with after a line: the same answer is due, from the lines after it, and its record has been written.
    pub record Onward (f : Found) (v : Verdict) : Type 0 where
      pub due : check_lines len t (lines_on at) ≡ left v (lines_on f.next)
      pub bytes : bytes_of (lines_on at) ≡ found_bytes f ++ bytes_of (lines_on f.next)
      pub later : at < f.next
      pub within : f.next ≤ length text

    onward : (c : Content) (next : ℕ) (v : Verdict) → lines_on at ≡ line at (some c) ∷ lines_on next → at < next → next ≤ length text
        → judge_found t at (found_of c next) ≡ v → Bytes (record_bytes c) → Onward (found_of c next) v
    unfolding bytes_of
    onward c next v is later within e small = record {
      due = found_due c next v is e ∙ ap (λ n. left v (lines_on n)) (sym (found_next c next));
      bytes =
          ap bytes_of is
          ∙ (λ i. sym (found_bytes_lem c next small) i ++ bytes_of (lines_on (sym (found_next c next) i)));
      later = omega (arith, found_next c next);
      within = omega (arith, found_next c next);
    }

    -- or taken,
    pub taken_there : {f : Found} → Fronts text at f → (u : Tally) → judge_found t at f ≡ verdict.Next u
        → Onward f (verdict.Next u) × (u.clocks ≤ 6)
    unfolding judge_found
    taken_there (is_wrong ls is) u e = refused_next e
    taken_there (is_line c next is later within) u e =
        let small = next_small t at c u few (sym (judge_found_lem t at c next few) ∙ e) in
        (onward c next _ is later within e small.0, small.1)

    -- or is the end.
    pub last_there : {f : Found} → Fronts text at f → judge_found t at f ≡ verdict.Last → Onward f verdict.Last
    unfolding judge_found
    last_there (is_wrong ls is) e = refused_last e
    last_there (is_line c next is later within) e =
        onward c next _ is later within e (last_small t at c few (sym (judge_found_lem t at c next few) ∙ e))

  -- after the end a line follows, or none
  pub lines_over : (at : ℕ) → length text ≤ at → lines_on at ≡ []
  lines_over at h = ap (lines_at at) (drop_of_length-le text h) ∙ lines_none at

  pub tail_over : (at : ℕ) (t : Tally) → length text ≤ at
      → tail_of (λ l. l.place) t (lines_on at) ≡ read.Counted t.clocks t.steps t.guards
  tail_over at t h = ap (tail_of (λ l. l.place) t) (lines_over at h)

  pub tail_goes_on : (at : ℕ) (t : Tally) → at < length text
      → tail_of (λ l. l.place) t (lines_on at) ≡ read.Refused (record { fault = fault.Tail; place = at })
  tail_goes_on at t h = go (line_cases at (drop at text))
    where
      go : (drop at text ≡ []) ⊎ (WithText (drop at text) ⊎ WithWrong at (drop at text))
          → tail_of (λ l. l.place) t (lines_on at) ≡ read.Refused (record { fault = fault.Tail; place = at })
      go (inl is) = absurd (omega (arith, ap length is, length-drop at text))
      go (inr (inl (c, plain, rest, is))) =
          ap (λ s. tail_of (λ l. l.place) t (lines_at at s)) is ∙ ap (tail_of (λ l. l.place) t) (lines_text at c rest plain)
      go (inr (inr (ls, is))) = ap (tail_of (λ l. l.place) t) is
