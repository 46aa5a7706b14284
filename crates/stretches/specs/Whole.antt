-- The table as a whole: records outside all stretches, and stretches between them. With the answer the first stretch is told.
use Rattle.std.specs.Prelude.{◌≡◌, refl, cond, List, [], ℕ, ◌≤◌, ◌<◌, eqb, length}
use Rattle.std.proofs.Common.{sym, ap, subst, ◌∙◌, arith, eq-eqb, ne_eqb}
use Rattle.std.proofs.Math.Decide.{ℕ_discrete}
use Rattle.table.specs.declared.Fault.TheVariants as fault
use Rattle.table.specs.declared.Refusal.{Refusal}
use Rattle.table.specs.declared.Read.{Read}
use Rattle.table.specs.declared.Read.TheVariants as read
use Rattle.records.specs.declared.Tally.{Tally}
use Rattle.records.specs.Checking.{start}
use Rattle.wire.specs.Records.{records_at, records}
use Rattle.wire.specs.Reading.{read_of}
use Rattle.wire.specs.Laws as wire
use Rattle.stretches.specs.declared.Part.{Part}
use Rattle.stretches.specs.declared.Part.TheVariants as part
use Rattle.stretches.specs.declared.Halt.{Halt}
use Rattle.stretches.specs.declared.Halt.TheVariants as halt
use Rattle.stretches.specs.Reading.{check_in, read_out}
use Rattle.stretches.specs.Laws.{out_long, out_short, out_counted}
use Rattle.stretches.specs.First.{first_of, of_stretch, is_open, opens_first, plain_first}
use Rattle.stretches.specs.Parts.{resumed, Past, same, Reads}
use Rattle.stretches.specs.Outside.{Limits, Found, due, plain_due, Stops}

-- The answer of bytes, and the place of the first record of a stretch. Where none comes before the answer it is the length of the bytes,
-- and the answer is that of a table without stretches.
pub record Tells (bytes : List ℕ) (a : Read) (first : ℕ) : Type 0 where
  pub answer : a ≡ read_out bytes
  pub plain : first ≡ length bytes → a ≡ read_of bytes
  pub place : (first ≡ length bytes → ⊥) → first ≡ first_of of_stretch (length bytes) (records bytes)

-- Of accepted bytes it is that of the first record of kind 7, if there is one.
pub first_open : (bytes : List ℕ) (a : Read) (first : ℕ) → Tells bytes a first → (n L g : ℕ) → a ≡ read.Counted n L g
    → first ≡ first_of is_open (length bytes) (records bytes)
first_open bytes a first h n L g e = go (ℕ_discrete first (length bytes)) ∙ opens_first (length bytes) n L g (records bytes) start whole.1
  where
    whole : (length bytes ≤ 4096) × (check_in (length bytes) start [] (records bytes) ≡ read.Counted n L g)
    whole = out_counted bytes (sym h.answer ∙ e)

    go : Dec (first ≡ length bytes) → first ≡ first_of of_stretch (length bytes) (records bytes)
    go (yes z) =
        z ∙ sym (plain_first (length bytes) n L g (records bytes) start (sym (wire.read_short bytes whole.0) ∙ sym (h.plain z) ∙ e))
    go (no n) = h.place n

-- ---- the answer due from the place reached is that of the whole table
pub record Reaches (bytes : List ℕ) (at : ℕ) (t : Tally) : Type 0 where
  pub limits : Limits bytes t
  pub same_answer : due bytes t at ≡ read_out bytes

pub reach_first : (bytes : List ℕ) → length bytes ≤ 4096 → Reaches bytes 0 start
reach_first bytes short =
    record { limits = record { short = short; few = omega arith; room = omega arith }; same_answer = sym (out_short bytes short) }

module _ (bytes : List ℕ) (at : ℕ) (t : Tally) (h : Reaches bytes at t) (s : Halt) (stops : Stops bytes t at s) where
  reach_answer : (a : Read) → s ≡ halt.Answer a → a ≡ read_out bytes
  reach_answer a e = (subst (Stops bytes t at) e stops).0 ∙ h.same_answer

  module _ (u : Tally) (p : ℕ) (e : s ≡ halt.Stretch u p) where
    to : Stops bytes t at (halt.Stretch u p)
    to = subst (Stops bytes t at) e stops

    pub reach_found : Found bytes p u
    reach_found = to.2

    module _ (r : Part) (reads : Reads bytes u p 0 same r) where
      pub reach_refused : (f : Refusal) → r ≡ part.Refused f → read.Refused f ≡ read_out bytes
      reach_refused f d = sym (sym h.same_answer ∙ to.0 ∙ reads.goes_on [] refl ∙ ap (resumed bytes []) d)

      pub reach_next : (v : Tally) (n : ℕ) → r ≡ part.Read v n → (at < length bytes) × (at < n) × Reaches bytes n v
      reach_next v n d =
          let x : Reads bytes u p 0 same (part.Read v n) = subst (Reads bytes u p 0 same) d reads in
          let g : Past u p v n = x.grown in (
            omega (arith, to.1, reach_found.here),
            omega (arith, to.1, g.past),
            record {
              limits = record { short = h.limits.short; few = g.few; room = g.room };
              same_answer = sym (sym h.same_answer ∙ to.0 ∙ x.goes_on [] refl);
            },
          )

-- ---- the first stretch

-- the first place, once a stretch has come at another
unfoldable pub first_by : ℕ → ℕ → ℕ → ℕ
first_by first len place = cond (eqb first len) place first

-- the first is known
abbrev pub Known : List ℕ → ℕ → Type 0
Known bytes first = (first ≡ length bytes → ⊥) × (first ≡ first_of of_stretch (length bytes) (records bytes))

-- up to a place: no stretch has come, and nothing is read; or the first is known
pub data Since (bytes : List ℕ) (at : ℕ) (t : Tally) (first : ℕ) : Type 0 where
  since_none : at ≡ 0 → t ≡ start → first ≡ length bytes → Since bytes at t first
  since_some : Known bytes first → Since bytes at t first

-- a stretch comes
pub since_stretch : {bytes : List ℕ} {at : ℕ} {t : Tally} {first : ℕ} → Since bytes at t first
    → (s : Halt) → Stops bytes t at s → (u : Tally) (p : ℕ) → s ≡ halt.Stretch u p → (g : ℕ) → g ≡ first_by first (length bytes) p → Known bytes g
unfolding first_by
since_stretch {bytes} {at} {t} {first} (since_none z b f) s stops u p e g is =
    let x : Stops bytes t at (halt.Stretch u p) = subst (Stops bytes t at) e stops in
    let y : g ≡ p = is ∙ rw (eq-eqb first (length bytes) f) in
    ((λ q. omega (arith, y, q, x.2.here)), y ∙ sym x.3 ∙ ap (λ n. first_of of_stretch (length bytes) (records_at bytes n)) z)
since_stretch {bytes} {at} {t} {first} (since_some known) s stops u p e g is =
    let y : g ≡ first = is ∙ rw (ne_eqb first (length bytes) known.0) in
    ((λ q. known.0 (sym y ∙ q)), y ∙ known.1)

-- ---- what is told at the end

pub tells_refused : {bytes : List ℕ} {a : Read} {first : ℕ} → a ≡ read_out bytes → Known bytes first → Tells bytes a first
tells_refused e known = record { answer = e; plain = λ z. absurd (known.0 z); place = λ _. known.1 }

pub tells_answer : {bytes : List ℕ} {at : ℕ} {t : Tally} {first : ℕ} → Reaches bytes at t → Since bytes at t first
    → (s : Halt) → Stops bytes t at s → (a : Read) → s ≡ halt.Answer a → Tells bytes a first
tells_answer {bytes} {at} {t} {first} h (since_none z b f) s stops a e =
    record {
      answer = reach_answer bytes at t h s stops a e;
      plain = λ _. (subst (Stops bytes t at) e stops).1 ∙ (λ i. plain_due bytes (b i) (z i)) ∙ sym (wire.read_short bytes h.limits.short);
      place = λ n. absurd (n f);
    }
tells_answer {bytes} {at} {t} {first} h (since_some known) s stops a e = tells_refused (reach_answer bytes at t h s stops a e) known

pub tells_long : (bytes : List ℕ) → 4096 < length bytes → Tells bytes (read.Refused (record { fault = fault.Length; place = 4096 })) (length bytes)
tells_long bytes h = record { answer = sym (out_long bytes h); plain = λ _. sym (wire.read_long bytes h); place = λ n. absurd (n refl) }
