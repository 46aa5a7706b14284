-- Tables without stretches are read as by a reader that knows none; and where such a reader stops, if there are.
use Rattle.std.specs.Prelude.{◌≡◌, refl, cond, false, Bool, true, ◌⊎◌, ℕ, zero, suc, ◌-◌, ◌≤◌, ◌<◌, leb, length, get_or}
use Rattle.std.proofs.Common.{sym, ap, ◌∙◌, inl, inr, ⊎_elim, arith}
use mathlib.Core.List.{List, [], ◌∷◌, Memᴰ}
use Rattle.std.proofs.Math.Decide.{dec_lt, dec_le}
use Rattle.table.specs.declared.Read.{Read}
use Rattle.table.specs.declared.Fault.TheVariants as fault
use Rattle.table.specs.declared.Read.TheVariants as read
use Rattle.records.specs.declared.Tally.{Tally}
use Rattle.records.specs.declared.Verdict.{Verdict}
use Rattle.records.specs.declared.Verdict.TheVariants.{Refused, Next, Last}
use Rattle.records.specs.Rules.{within}
use Rattle.records.specs.Checking.{start, check_of}
use Rattle.wire.specs.Records.{Record, records, records_at}
use Rattle.wire.specs.Reading.{judge_of, check, read_of}
use Rattle.wire.specs.Laws.{onward}
use Rattle.wire.specs.Laws as wire
use Rattle.format.specs.Shapes.{check_judged}
use Rattle.format.specs.Reach.{record_of, after}
use Rattle.stretches.specs.Reading.{lift, check_in, read_out}
use Rattle.stretches.specs.Laws.{onward_in, check_said, plain_said, check_on, check_out, out_long, out_short, no_kind}
use Rattle.stretches.specs.Outside.{due, plain_due}

-- no record is one of a stretch
abbrev pub Flat : List Record → Type 0
Flat rs = (r : Record) → Memᴰ r rs → within 7 r.kind 8 ≡ false

check_flat : (len : ℕ) (rs : List Record) (t : Tally) → Flat rs → check_in len t [] rs ≡ check len t rs
unfolding check_in check_of
check_flat len [] t flat = refl
check_flat len (r ∷ rs) t flat =
    check_said len t [] r rs (lift [] (judge_of t r)) (plain_said t [] r (flat r (Memᴰ.head refl)) (λ _. refl))
    ∙ go (judge_of t r) (λ u. check_flat len rs u (λ x m. flat x (Memᴰ.tail m)))
    ∙ sym (check_judged len t r rs (judge_of t r) refl)
  where
    go : (v : Verdict) → ((u : Tally) → check_in len u [] rs ≡ check len u rs) → onward_in len t rs (lift [] v) ≡ onward len t rs v
    go (Refused f) h = refl
    go (Next u) h = h u
    go Last h = refl

-- They are answered alike.
pub flat_same : (bytes : List ℕ) → Flat (records bytes) → read_out bytes ≡ read_of bytes
unfolding read_out read_of
flat_same bytes flat =
    ap (λ x. cond (leb (length bytes) 4096) x (read.Refused (record { fault = fault.Length; place = 4096 })))
    (check_flat (length bytes) (records bytes) start flat)

-- ---- where a reader that knows no stretches stops

-- a refusal for the kind at a record of a stretch
pub record Halted (bytes : List ℕ) (a : Read) : Type 0 where
  pub place : ℕ
  pub refused : a ≡ read.Refused (record { fault = fault.Kind; place = place })
  pub kind : within 7 (get_or bytes place 0) 8 ≡ true

either_at : (bytes : List ℕ) (k at : ℕ) (t : Tally) → length bytes - at ≤ k
    → (due bytes t at ≡ plain_due bytes t at) ⊎ Halted bytes (plain_due bytes t at)
either_at bytes zero at t h =
    inl (check_out (length bytes) t [] bytes at (omega arith) ∙ sym (wire.check_out bytes t at (length bytes) (omega arith)))
either_at bytes (suc k) at t h = go (dec_lt at (length bytes)) (λ u less. either_at bytes k (after bytes at) u less)
  where
    go : Dec (at < length bytes)
        → ((u : Tally) → length bytes - after bytes at ≤ k
        → (due bytes u (after bytes at) ≡ plain_due bytes u (after bytes at)) ⊎ Halted bytes (plain_due bytes u (after bytes at)))
        → (due bytes t at ≡ plain_due bytes t at) ⊎ Halted bytes (plain_due bytes t at)
    go (no out) again =
        inl (check_out (length bytes) t [] bytes at (omega arith) ∙ sym (wire.check_out bytes t at (length bytes) (omega arith)))
    go (yes here) again = by (within 7 (get_or bytes at 0) 8) refl
      where
        plain_by : (v : Verdict) → judge_of t (record_of bytes at) ≡ v
            → plain_due bytes t at ≡ wire.onward (length bytes) t (records_at bytes (after bytes at)) v
        plain_by v e = wire.check_on bytes t at (length bytes) here ∙ ap (wire.onward (length bytes) t (records_at bytes (after bytes at))) e

        full_by : within 7 (get_or bytes at 0) 8 ≡ false → (v : Verdict) → judge_of t (record_of bytes at) ≡ v
            → due bytes t at ≡ onward_in (length bytes) t (records_at bytes (after bytes at)) (lift [] v)
        full_by other v e =
            check_on (length bytes) t [] bytes at here (lift [] v) (plain_said t [] (record_of bytes at) other (λ _. refl) ∙ ap (lift []) e)

        after_it : within 7 (get_or bytes at 0) 8 ≡ false → (v : Verdict) → judge_of t (record_of bytes at) ≡ v
            → (due bytes t at ≡ plain_due bytes t at) ⊎ Halted bytes (plain_due bytes t at)
        after_it other (Refused f) e = inl (full_by other (Refused f) e ∙ sym (plain_by (Refused f) e))
        after_it other Last e = inl (full_by other Last e ∙ sym (plain_by Last e))
        after_it other (Next u) e =
            ⊎_elim
            (λ same. inl (full_by other (Next u) e ∙ same ∙ sym (plain_by (Next u) e)))
            (λ x. inr (record { place = x.place; refused = plain_by (Next u) e ∙ x.refused; kind = x.kind }))
            (again u (omega arith))

        by : (b : Bool) → within 7 (get_or bytes at 0) 8 ≡ b → (due bytes t at ≡ plain_due bytes t at) ⊎ Halted bytes (plain_due bytes t at)
        by true e =
            inr (record { place = at; refused = plain_by _ (no_kind t (record_of bytes at) e); kind = e })
        by false e = after_it e (judge_of t (record_of bytes at)) refl

-- Bytes are answered alike with stretches and without, or the answer without is 3 at a record of a stretch.
pub either : (bytes : List ℕ) → (read_out bytes ≡ read_of bytes) ⊎ Halted bytes (read_of bytes)
either bytes = go (dec_le (length bytes) 4096)
  where
    go : Dec (length bytes ≤ 4096) → (read_out bytes ≡ read_of bytes) ⊎ Halted bytes (read_of bytes)
    go (no long) = let l : 4096 < length bytes = omega arith in inl (out_long bytes l ∙ sym (wire.read_long bytes l))
    go (yes short) =
        ⊎_elim
        (λ same. inl (out_short bytes short ∙ same ∙ sym (wire.read_short bytes short)))
        (λ x. inr (record { place = x.place; refused = wire.read_short bytes short ∙ x.refused; kind = x.kind }))
        (either_at bytes (length bytes) 0 start (omega arith))
