-- Records outside all stretches, up to a stretch or to the answer; and a stretch there, or what stands in its stead.
use Rattle.std.specs.Prelude.{◌≡◌, refl, ◌≢◌, Bool, true, false, ◌||◌, List, [], ◌∷◌, ℕ, ◌+◌, ◌-◌, ◌≤◌, ◌<◌, eqb, length, get_or, drop}
use Rattle.std.proofs.Common.{sym, ap, subst, ◌∙◌, arith, length-drop, eq-eqb, ne_eqb}
use Rattle.std.proofs.Math.Decide.{ℕ_discrete}
use Rattle.table.specs.declared.Fault.TheVariants as fault
use Rattle.table.specs.declared.Refusal.{Refusal}
use Rattle.table.specs.declared.Read.{Read}
use Rattle.table.specs.declared.Read.TheVariants as read
use Rattle.records.specs.declared.Tally.{Tally}
use Rattle.records.specs.declared.Verdict.{Verdict}
use Rattle.records.specs.declared.Verdict.TheVariants.{Refused, Next, Last}
use Rattle.records.specs.Rules.{within}
use Rattle.wire.specs.Records.{Bytes, record_at, records_at}
use Rattle.wire.specs.Reading.{judge_of, tail, check}
use Rattle.wire.specs.Laws as wire
use Rattle.wire.specs.Listing.{guard, reset}
use Rattle.format.specs.Located.{located_here}
use Rattle.format.specs.Judged as plain
use Rattle.stretches.specs.declared.Open.{Open}
use Rattle.stretches.specs.declared.Part.TheVariants as part
use Rattle.stretches.specs.declared.Halt.{Halt}
use Rattle.stretches.specs.declared.Halt.TheVariants as halt
use Rattle.stretches.specs.Reading.{refused, lift, closed, judge_in, check_in}
use Rattle.format.specs.Reach.{record_of, after}
use Rattle.stretches.specs.Laws.{onward_in, check_on, check_out, plain_said}
use Rattle.stretches.specs.First.{first_of, of_stretch, first_here, first_later}
use Rattle.stretches.specs.Parts.{stands_between, unfinished_of, same, Reads, ItemAt}
use Rattle.stretches.specs.Steps.{astray_judged}

-- a tally within the limits
pub record Limits (bytes : List ℕ) (t : Tally) : Type 0 where
  pub short : length bytes ≤ 4096
  pub few : t.steps ≤ 16
  pub room : t.guards ≤ 64

-- the open or the close of a stretch stands at a place
pub record Found (bytes : List ℕ) (at : ℕ) (t : Tally) : Type 0 where
  pub limits : Limits bytes t
  pub here : at < length bytes
  pub kind : within 7 (get_or bytes at 0) 8 ≡ true

-- the answer that is due from a place on
abbrev pub due : List ℕ → Tally → ℕ → Read
due bytes t at = check_in (length bytes) t [] (records_at bytes at)

-- and by the tests of a table without stretches alone
abbrev pub plain_due : List ℕ → Tally → ℕ → Read
plain_due bytes t at = check (length bytes) t (records_at bytes at)

-- an answer with no stretch before it is that of either
abbrev pub Answers : List ℕ → Tally → ℕ → Read → Type 0
Answers bytes t from a = (a ≡ due bytes t from) × (a ≡ plain_due bytes t from)

abbrev pub Stops : List ℕ → Tally → ℕ → Halt → Type 0
Stops bytes t from (halt.Answer a) = Answers bytes t from a
Stops bytes t from (halt.Stretch u p) = (due bytes t from ≡ due bytes u p) × (from ≤ p) × Found bytes p u × (first_of of_stretch (length bytes) (records_at bytes from) ≡ p)

-- ---- a record that is taken, or is the end, is none of a stretch
module _ (bytes : List ℕ) (small : Bytes bytes) (at : ℕ) (t : Tally) (room : t.guards ≤ 64) where
  told : plain.Told t (record_of bytes at) (judge_of t (record_of bytes at))
  told = plain.judged t (record_of bytes at) (located_here bytes at small) room

  of_kind : (k : ℕ) → get_or bytes at 0 ≡ k → within 7 k 8 ≡ false → within 7 (get_or bytes at 0) 8 ≡ false
  of_kind k e f = ap (λ n. within 7 n 8) e ∙ f

  pub last_other : (v : Verdict) → v ≡ judge_of t (record_of bytes at) → v ≡ Last → within 7 (get_or bytes at 0) 8 ≡ false
  last_other v is e = go (subst (plain.Told t (record_of bytes at)) (sym is ∙ e) told)
    where
      go : plain.Told t (record_of bytes at) Last → within 7 (get_or bytes at 0) 8 ≡ false
      go (plain.is_end _ shape _ _) = of_kind 5 (ap (λ r. r.kind) shape) refl

  pub next_other : (v : Verdict) (u : Tally) → v ≡ judge_of t (record_of bytes at) → v ≡ Next u → within 7 (get_or bytes at 0) 8 ≡ false
  next_other v u is e = go u (subst (plain.Told t (record_of bytes at)) (sym is ∙ e) told)
    where
      go : (u : Tally) → plain.Told t (record_of bytes at) (Next u) → within 7 (get_or bytes at 0) 8 ≡ false
      go u (plain.is_head m _ shape _ _) = of_kind 1 (ap (λ r. r.kind) shape) refl
      go u (plain.is_entry (guard g) _ shape _ _ _) = of_kind 2 (ap (λ r. r.kind) shape) refl
      go u (plain.is_entry (reset j) _ shape _ _ _) = of_kind 3 (ap (λ r. r.kind) shape) refl
      go u (plain.is_finish _ shape _) = of_kind 4 (ap (λ r. r.kind) shape) refl

-- ---- the records
pub record UpTo (bytes : List ℕ) (from : ℕ) (tally : Tally) (at : ℕ) (t : Tally) : Type 0 where
  pub limits : Limits bytes t
  pub past : from ≤ at
  pub same : due bytes tally from ≡ due bytes t at
  pub plain_same : plain_due bytes tally from ≡ plain_due bytes t at
  pub first_same : first_of of_stretch (length bytes) (records_at bytes from) ≡ first_of of_stretch (length bytes) (records_at bytes at)

module _ (bytes : List ℕ) (from : ℕ) (tally : Tally) (at : ℕ) (t : Tally) (h : UpTo bytes from tally at t) where
  pub runs_out : length bytes ≤ at → Answers bytes tally from (read.Refused (record { fault = fault.Cut; place = length bytes }))
  runs_out l = (sym (h.same ∙ check_out (length bytes) t [] bytes at l), sym (h.plain_same ∙ wire.check_out bytes t at (length bytes) l))

  module _ (here : at < length bytes) where
    pub comes_to : within 7 (get_or bytes at 0) 8 ≡ true → Stops bytes tally from (halt.Stretch t at)
    comes_to k = (
      h.same,
      h.past,
      record { limits = h.limits; here = here; kind = k },
      h.first_same ∙ first_here of_stretch (length bytes) bytes at here k,
    )

    module _ (other : within 7 (get_or bytes at 0) 8 ≡ false) (v : Verdict) (is : v ≡ judge_of t (record_of bytes at)) where
      goes : due bytes tally from ≡ onward_in (length bytes) t (records_at bytes (after bytes at)) (lift [] v)
      goes =
          h.same
          ∙ check_on (length bytes) t [] bytes at here (lift [] v) (plain_said t [] (record_of bytes at) other (λ _. refl) ∙ ap (lift []) (sym is))

      goes_by : (w : Verdict) → v ≡ w → due bytes tally from ≡ onward_in (length bytes) t (records_at bytes (after bytes at)) (lift [] w)
      goes_by w e = goes ∙ ap (λ x. onward_in (length bytes) t (records_at bytes (after bytes at)) (lift [] x)) e

      plain_by : (w : Verdict) → v ≡ w → plain_due bytes tally from ≡ wire.onward (length bytes) t (records_at bytes (after bytes at)) w
      plain_by w e =
          h.plain_same
          ∙ wire.check_on bytes t at (length bytes) here
          ∙ ap (wire.onward (length bytes) t (records_at bytes (after bytes at))) (sym is ∙ e)

      pub is_refused : (f : Refusal) → v ≡ Refused f → Answers bytes tally from (read.Refused f)
      is_refused f e = (sym (goes_by (Refused f) e), sym (plain_by (Refused f) e))

      pub is_last : (n : ℕ) → n ≡ after bytes at → v ≡ Last → (a : Read) → a ≡ tail t (records_at bytes n) → Answers bytes tally from a
      is_last n p e a q =
          let same = q ∙ ap (λ m. tail t (records_at bytes m)) p in
          (same ∙ sym (goes_by Last e), same ∙ sym (plain_by Last e))

      pub is_next : Bytes bytes → (u : Tally) (n : ℕ) → n ≡ after bytes at → v ≡ Next u → UpTo bytes from tally n u
      is_next small u n p e =
          record {
            limits = keeps u (subst (plain.Told t (record_of bytes at)) (sym is ∙ e)
                (plain.judged t (record_of bytes at) (located_here bytes at small) h.limits.room));
            past = omega (arith, h.past, p);
            same = goes_by (Next u) e ∙ ap (λ m. due bytes u m) (sym p);
            plain_same = plain_by (Next u) e ∙ ap (λ m. plain_due bytes u m) (sym p);
            first_same = h.first_same ∙ first_later of_stretch (length bytes) bytes at here other ∙ ap (λ m. first_of of_stretch (length bytes) (records_at bytes m)) (sym p);
          }
        where
          keeps : (u : Tally) → plain.Told t (record_of bytes at) (Next u) → Limits bytes u
          keeps u (plain.is_head m _ _ _ _) = record { short = h.limits.short; few = omega arith; room = omega arith }
          keeps u (plain.is_entry x _ _ _ _ room) = record { short = h.limits.short; few = h.limits.few; room = room }
          keeps u (plain.is_finish _ _ few) = record { short = h.limits.short; few = omega arith; room = h.limits.room }

-- ---- the open or the close of a stretch, outside all others
module _ (bytes : List ℕ) (at : ℕ) (t : Tally) (h : Found bytes at t) where
  range : (7 ≤ get_or bytes at 0) × (get_or bytes at 0 ≤ 8)
  range = plain.within_true 7 (get_or bytes at 0) 8 h.kind

  -- both stand after the head
  pub found_first : at ≡ 0 → Reads bytes t at 0 same (part.Refused (record { fault = fault.Head; place = 0 }))
  found_first z =
      record {
        goes_on = λ stack e. check_on (length bytes) t stack bytes at h.here (refused (record { fault = fault.Head; place = at }))
            (judged stack (ℕ_discrete (get_or bytes at 0) 7)) ∙ ap (λ n. read.Refused (record { fault = fault.Head; place = n })) z;
        grown = tt;
      }
    where
      at_kind : (stack : List Open) (k : ℕ) → get_or bytes at 0 ≡ k
          → judge_in t stack (record_at at k (drop (at + 1) bytes)) ≡ refused (record { fault = fault.Head; place = at })
          → judge_in t stack (record_of bytes at) ≡ refused (record { fault = fault.Head; place = at })
      at_kind stack k s q = ap (λ n. judge_in t stack (record_at at n (drop (at + 1) bytes))) s ∙ q

      judged : (stack : List Open) → Dec (get_or bytes at 0 ≡ 7) → judge_in t stack (record_of bytes at) ≡ refused (record { fault = fault.Head; place = at })
      judged stack (yes s) = at_kind stack 7 s (unfold judge_in in rw (eq-eqb at 0 z))
      judged stack (no n) = at_kind stack 8 (omega (arith, range.0, range.1, n)) (unfold judge_in in rw (eq-eqb at 0 z))

  module _ (later : at ≢ 0) where
    pub found_unfinished : t.pending ≢ 0 → (k left : ℕ) → k ≡ get_or bytes at 0 → left ≡ length bytes - at - 1
        → Reads bytes t at 0 same (part.Refused (record { fault = unfinished_of k left 0; place = at }))
    found_unfinished begun k left e l =
        record {
          goes_on = λ stack d.
              check_on (length bytes) t stack bytes at h.here _
              (astray_judged t stack at (drop (at + 1) bytes) (omega arith) begun (get_or bytes at 0) astray_here)
              ∙ (λ i. read.Refused (record { fault = unfinished_of (sym e i) (left_is i) (d i); place = at }));
          grown = tt;
        }
      where
        left_is : length (drop (at + 1) bytes) ≡ left
        left_is = omega (arith, length-drop (at + 1) bytes, l, h.here)

        astray_here : stands_between (get_or bytes at 0) ≡ true
        astray_here = or_right (eqb (get_or bytes at 0) 5) (within 7 (get_or bytes at 0) 8) h.kind
          where
            or_right : (a b : Bool) → b ≡ true → (a || b) ≡ true
            or_right true b e = refl
            or_right false b e = e

    module _ (none : t.pending ≡ 0) where
      pub found_close : get_or bytes at 0 ≡ 8 → Reads bytes t at 0 same (part.Refused (record { fault = fault.Stretch; place = at }))
      found_close k8 =
          record {
            goes_on = λ stack e. check_on (length bytes) t stack bytes at h.here (refused (record { fault = fault.Stretch; place = at }))
                (ap (λ k. judge_in t stack (record_at at k (drop (at + 1) bytes))) k8 ∙ eight stack e);
            grown = tt;
          }
        where
          eight : (stack : List Open) → length stack ≡ 0
              → judge_in t stack (record_at at 8 (drop (at + 1) bytes)) ≡ refused (record { fault = fault.Stretch; place = at })
          eight [] e = unfold judge_in closed in rw (ne_eqb at 0 later)
          eight (o ∷ stack) e = absurd (omega (arith, e))

      pub found_item : get_or bytes at 0 ≢ 8 → ItemAt bytes at t
      found_item no8 =
          record {
            begins = record { limits = record { later = omega arith; short = h.limits.short; few = h.limits.few; room = h.limits.room }; none = none };
            here = h.here;
            no_end = λ e. omega (arith, range.0, e);
            no_close = no8;
          }
