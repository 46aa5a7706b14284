-- A card that is being drafted, line by line.
use Rattle.std.specs.Prelude.{◌≡◌, cond, List, ℕ, ◌+◌, ◌*◌, ◌≤◌, ◌<◌, ltb, length}
use Rattle.std.proofs.Common.{sym, ◌∙◌, arith, lt-ltb, le-ltb}
use Rattle.std.proofs.Math.Path.{ap, subst}
use Rattle.std.proofs.Math.Decide.{dec_lt}
use Rattle.table.specs.declared.Fault.TheVariants as fault
use Rattle.table.specs.declared.Refusal.{Refusal}
use Rattle.text.specs.Over as over
use Rattle.text.specs.Begun.{Begun, begun_none, begun_more, begun_all}
use Rattle.records.specs.declared.Tally.{Tally}
use Rattle.records.specs.declared.Verdict.TheVariants as verdict
use Rattle.records.specs.Checking.{start, check_of}
use Rattle.cards.specs.declared.Converted.{Converted}
use Rattle.cards.specs.declared.Converted.TheVariants.{Written, Refused}
use Rattle.cards.specs.Card.{check_lines, card_read}
use Rattle.cards.specs.Convert.{bytes_of, table_of}
use Rattle.cards.proofs.RoundTrip.{card_short}
use Rattle.card_lines.specs.declared.Found.{Found}
use Rattle.card_lines.specs.Fronts.{Fronts}
use Rattle.card_reading.specs.Judged.{judge_found, found_bytes}
use Rattle.card_reading.specs.Drafted.{Drafted, refuses, drafts, closing, lines_on, Onward, refused_there, taken_there, last_there, lines_over, tail_over, tail_goes_on}

-- After the lines before a place: the tally, the answer that is due from the lines left, and the bytes that are drafted.
pub record At (text before : List ℕ) (t : Tally) (at to : ℕ) (out : List ℕ) : Type 0 where
  pub short : length text ≤ 16384
  pub within : at ≤ length text
  pub few : t.clocks ≤ 6
  pub small : to ≤ 5 * at
  pub due : check_lines (length text) t (lines_on text at) ≡ card_read text
  pub begun : Begun before (table_of text) (bytes_of (lines_on text at)) out to

pub at_start : (text before : List ℕ) → length text ≤ 16384 → At text before start 0 0 before
unfolding table_of
at_start text before h = record {
  short = h;
  within = omega arith;
  few = omega arith;
  small = omega arith;
  due = sym (card_short text h);
  begun = begun_none before (table_of text);
}

module _ {text before : List ℕ} {t : Tally} {at to : ℕ} {out : List ℕ} (here : At text before t at to out) where
  -- no line is left
  pub at_out : length text ≤ at → Drafted text before (Refused (record { fault = fault.Cut; place = length text })) out
  unfolding check_of
  at_out h = refuses _ out (sym here.due ∙ ap (check_lines (length text) t) (lines_over text at h))

  -- the line at the place is refused
  pub at_refused : {f : Found} → Fronts text at f → (r : Refusal) → judge_found t at f ≡ verdict.Refused r → (after : List ℕ)
      → Drafted text before (Refused r) after
  at_refused front r e after = refuses r after (sym here.due ∙ refused_there text (length text) t here.few at front r e)

  module _ {f : Found} (front : Fronts text at f) (after : List ℕ) (n : ℕ) (put : over.Written out to (found_bytes f) after n) where
    -- it is taken, and its record is written
    pub at_next : (u : Tally) → judge_found t at f ≡ verdict.Next u → n ≤ to + 5 → (at < f.next) × At text before u f.next n after
    at_next u e few =
        let (on, clocks) = taken_there text (length text) t here.few at front u e in
        let later = on.later in
        let within = on.within in
        let below = here.small in (
          later,
          record {
            short = here.short;
            within = within;
            few = clocks;
            small = omega arith;
            due = sym on.due ∙ here.due;
            begun = begun_more on.bytes here.begun put;
          },
        )

    -- it is the end
    pub at_last : judge_found t at f ≡ verdict.Last → {a : Converted} → a ≡ closing (length text) f.next n → Drafted text before a after
    unfolding closing bytes_of
    at_last e is = subst (λ a. Drafted text before a after) (sym is) (go (dec_lt f.next (length text)))
      where
        on : Onward text (length text) t here.few at f verdict.Last
        on = last_there text (length text) t here.few at front e

        go : Dec (f.next < length text)
            → Drafted text before (cond (ltb f.next (length text)) (Refused (record { fault = fault.Tail; place = f.next })) (Written n)) after
        go (yes h) =
            subst (λ b. Drafted text before (cond b (Refused (record { fault = fault.Tail; place = f.next })) (Written n)) after)
            (sym (lt-ltb f.next (length text) h))
            (refuses _ after (sym here.due ∙ on.due ∙ tail_goes_on text f.next t h))
        go (no h) =
            subst (λ b. Drafted text before (cond b (Refused (record { fault = fault.Tail; place = f.next })) (Written n)) after)
            (sym (le-ltb f.next (length text) (omega arith)))
            (drafts _ _ _ n after (sym here.due ∙ on.due ∙ tail_over text f.next t (omega arith))
            (begun_all (ap bytes_of (lines_over text f.next (omega arith))) (begun_more on.bytes here.begun put)))
