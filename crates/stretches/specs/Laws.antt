-- How the answer goes on, one record at a time, and which records are judged as in a table without stretches.
use Rattle.std.specs.Prelude.{◌≡◌, refl, Bool, true, false, cond, ◌&&◌, List, [], ◌∷◌, ℕ, ◌≤◌, ◌<◌, eqb, leb, length}
use Rattle.std.proofs.Common.{sym, ◌∙◌, arith, eqb-true, ne_eqb, leb-true, le-leb}
use Rattle.std.proofs.Math.Path.{ap}
use Rattle.std.proofs.lemmas.Bool.{lt-leb}
use Rattle.table.specs.declared.Fault.TheVariants as fault
use Rattle.table.specs.declared.Read.{Read}
use Rattle.table.specs.declared.Read.TheVariants as read
use Rattle.records.specs.declared.Tally.{Tally}
use Rattle.records.specs.declared.Verdict.{Verdict}
use Rattle.records.specs.declared.Verdict.TheVariants.{Refused}
use Rattle.records.specs.Rules.{within, need}
use Rattle.records.specs.Checking.{start}
use Rattle.wire.specs.Records.{Record, records_at, records_none, records_next, records}
use Rattle.wire.specs.Reading.{judge_of, tail}
use Rattle.format.specs.Shapes.{false_true, refused_counted}
use Rattle.format.specs.Judged.{within_true}
use Rattle.format.specs.Reach.{record_of, after}
use Rattle.stretches.specs.declared.Open.{Open}
use Rattle.stretches.specs.Reading.{Said, refused, next, last, lift, or_else, none_open, judge_in, check_in, read_out}

-- what is said of a record makes this of the records after it
abbrev pub onward_in : ℕ → Tally → List Record → Said → Read
onward_in len t rs (refused f) = read.Refused f
onward_in len t rs (next u then) = check_in len u then rs
onward_in len t rs last = tail t rs

module _ (len : ℕ) (t : Tally) (stack : List Open) where
  pub check_said : (r : Record) (rs : List Record) (v : Said) → judge_in t stack r ≡ v → check_in len t stack (r ∷ rs) ≡ onward_in len t rs v
  check_said r rs v e = first (judge_in t stack r) refl ∙ ap (onward_in len t rs) e
    where
      first : (w : Said) → judge_in t stack r ≡ w → check_in len t stack (r ∷ rs) ≡ onward_in len t rs w
      first (refused f) e = unfold check_in in rw (e, check_in)
      first (next u then) e = unfold check_in in rw (e, check_in)
      first last e = unfold check_in in rw (e, check_in)

  module _ (bytes : List ℕ) (at : ℕ) where
    -- the record at a place, and the rest after it
    pub check_on : at < length bytes → (v : Said) → judge_in t stack (record_of bytes at) ≡ v
        → check_in len t stack (records_at bytes at) ≡ onward_in len t (records_at bytes (after bytes at)) v
    check_on h v e = ap (check_in len t stack) (records_next bytes at h) ∙ check_said _ _ v e

    -- no record begins where one is due
    pub check_out : length bytes ≤ at → check_in len t stack (records_at bytes at) ≡ read.Refused (record { fault = fault.Cut; place = len })
    unfolding check_in
    check_out h = ap (check_in len t stack) (records_none bytes at h)

-- ---- the answer of bytes that are too long, and of others

pub out_long : (bytes : List ℕ) → 4096 < length bytes → read_out bytes ≡ read.Refused (record { fault = fault.Length; place = 4096 })
unfolding read_out
out_long bytes h = rw (lt-leb (length bytes) 4096 h)

pub out_short : (bytes : List ℕ) → length bytes ≤ 4096 → read_out bytes ≡ check_in (length bytes) start [] (records_at bytes 0)
unfolding read_out
out_short bytes h = rw (le-leb (length bytes) 4096 h)

-- what is accepted is short
pub out_counted : (bytes : List ℕ) {n L g : ℕ} → read_out bytes ≡ read.Counted n L g
    → (length bytes ≤ 4096) × (check_in (length bytes) start [] (records bytes) ≡ read.Counted n L g)
unfolding read_out
out_counted bytes {n} {L} {g} e = go (leb (length bytes) 4096) refl e
  where
    go : (b : Bool) → leb (length bytes) 4096 ≡ b
        → cond b (check_in (length bytes) start [] (records bytes)) (read.Refused (record { fault = fault.Length; place = 4096 })) ≡ read.Counted n L g
        → (length bytes ≤ 4096) × (check_in (length bytes) start [] (records bytes) ≡ read.Counted n L g)
    go true h q = (leb-true (length bytes) 4096 h, q)
    go false h q = refused_counted q

-- ---- records judged as in a table without stretches

-- those that open and close nothing, and the end outside all stretches
pub plain_said : (t : Tally) (stack : List Open) (r : Record) → within 7 r.kind 8 ≡ false → (r.kind ≡ 5 → stack ≡ [])
    → judge_in t stack r ≡ lift stack (judge_of t r)
unfolding judge_in
plain_said t stack r other out =
    picked (eqb r.kind 7) (eqb r.kind 8) (eqb r.kind 5) (none_open stack) _ _ _ (ne_eqb r.kind 7 (never 7 refl))
    (ne_eqb r.kind 8 (never 8 refl)) (λ e. ap none_open (out (eqb-true r.kind 5 e)))
  where
    never : (k : ℕ) → within 7 k 8 ≡ true → r.kind ≡ k → ⊥
    never k t e = false_true (sym other ∙ ap (λ n. within 7 n 8) e ∙ t)

    picked : (a b c d : Bool) (p q x : Said) → a ≡ false → b ≡ false → (c ≡ true → d ≡ true)
        → cond a p (cond b q (cond c (or_else d fault.Stretch r.place x) x)) ≡ x
    picked true b c d p q x e f g = false_true (sym e)
    picked false true c d p q x e f g = false_true (sym f)
    picked false false true true p q x e f g = refl
    picked false false true false p q x e f g = false_true (g refl)
    picked false false false d p q x e f g = refl

-- and there the two kinds of a stretch are no kinds at all
pub no_kind : (t : Tally) (r : Record) → within 7 r.kind 8 ≡ true → judge_of t r ≡ Refused (record { fault = fault.Kind; place = r.place })
unfolding judge_of
no_kind t r e =
    let h = within_true 7 r.kind 8 e in
    pick (leb 1 r.kind) (leb r.kind 5) _ (lt-leb r.kind 5 (omega (arith, h.0)))
  where
    pick : (a b : Bool) (v : Verdict) → b ≡ false
        → need (a && b) fault.Kind r.place v ≡ Refused (record { fault = fault.Kind; place = r.place })
    pick true b v e = rw e
    pick false b v e = refl
