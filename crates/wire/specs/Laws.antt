-- How the answer goes on, one record at a time.
use Rattle.std.specs.Prelude.{◌≡◌, refl, false, List, ℕ, ◌+◌, ◌*◌, ◌≤◌, ◌<◌, length, get_or, drop}
use Rattle.std.proofs.Common.{sym, ◌∙◌, lit<, get_or-take, get_or-drop, arith, le-leb}
use Rattle.std.proofs.Math.Path.{ap}
use Rattle.std.proofs.Math.Decide.{dec_le}
use Rattle.std.proofs.lemmas.Bool.{lt-leb}
use Rattle.table.specs.declared.Fault.TheVariants as fault
use Rattle.table.specs.declared.Guard.{Guard}
use Rattle.table.specs.declared.Read.{Read}
use Rattle.table.specs.declared.Read.TheVariants as read
use Rattle.records.specs.declared.Tally.{Tally}
use Rattle.records.specs.declared.Verdict.{Verdict}
use Rattle.records.specs.Rules.{body_size, relation_of}
use Rattle.records.specs.Checking.{start, check_of, onward_of, check_judged}
use Rattle.wire.specs.Records.{Record, record_at, records_at, records_none, records_next}
use Rattle.wire.specs.Reading.{byte, judge_of, tail, check, read_of}
use Rattle.wire.specs.Listing.{guard_in}

-- byte i of a record's body, by its place in the table
pub byte_is : (bytes : List ℕ) (at k i : ℕ) → i < body_size k → (n : ℕ) → n ≡ at + 1 + i
    → get_or bytes n 0 ≡ byte (record_at at k (drop (at + 1) bytes)) i
byte_is bytes at k i h n e =
    ap (λ m. get_or bytes m 0) e
    ∙ sym (get_or-take (body_size k) (drop (at + 1) bytes) i 0 h ∙ get_or-drop (at + 1) bytes i 0)

-- the guard of a record, by its bytes
pub guard_in_lem : (bytes : List ℕ) (at clock relation low high : ℕ) → clock ≡ get_or bytes (at + 1) 0 → relation ≡ get_or bytes (at + 2) 0
    → low ≡ get_or bytes (at + 3) 0 → high ≡ get_or bytes (at + 4) 0
    → ◌≡◌ {A = Guard} (record { clock = clock; second = 0; relation = relation_of relation; minus = false; constant = low + high * 256 })
    (guard_in (record_at at 2 (drop (at + 1) bytes)))
guard_in_lem bytes at clock relation low high e₁ e₂ e₃ e₄ = λ j.
    record {
      clock = (e₁ ∙ of 0 (lit< tt) (at + 1) (omega arith)) j;
      second = 0;
      relation = relation_of ((e₂ ∙ of 1 (lit< tt) (at + 2) (omega arith)) j);
      minus = false;
      constant = (e₃ ∙ of 2 (lit< tt) (at + 3) (omega arith)) j + (e₄ ∙ of 3 (lit< tt) (at + 4) (omega arith)) j * 256;
    }
  where
    of : (i : ℕ) → i < 4 → (n : ℕ) → n ≡ at + 1 + i → get_or bytes n 0 ≡ byte (record_at at 2 (drop (at + 1) bytes)) i
    of i = byte_is bytes at 2 i

-- what a verdict makes of the records after it
abbrev pub onward : ℕ → Tally → List Record → Verdict → Read
onward = onward_of (λ r. r.place) judge_of

module _ (bytes : List ℕ) (t : Tally) (at : ℕ) where
  -- the record at a place is judged, and the rest begins after it
  pub check_on : (len : ℕ) → at < length bytes
      → check len t (records_at bytes at)
      ≡ onward len t (records_at bytes (at + 1 + body_size (get_or bytes at 0))) (judge_of t (record_at at (get_or bytes at 0) (drop (at + 1) bytes)))
  check_on len h = ap (check len t) (records_next bytes at h) ∙ check_judged (λ r. r.place) judge_of len t _ _ _ refl

  -- no record begins where one is due
  pub check_out : (len : ℕ) → length bytes ≤ at → check len t (records_at bytes at) ≡ read.Refused (record { fault = fault.Cut; place = len })
  unfolding check_of
  check_out len h = ap (check len t) (records_none bytes at h)

  -- a byte follows the end, or none
  pub tail_more : at < length bytes → tail t (records_at bytes at) ≡ read.Refused (record { fault = fault.Tail; place = at })
  tail_more h = ap (tail t) (records_next bytes at h)

  pub tail_none : length bytes ≤ at → tail t (records_at bytes at) ≡ read.Counted t.clocks t.steps t.guards
  tail_none h = ap (tail t) (records_none bytes at h)

-- the answer of a table that is too long, and of one that is not
pub read_long : (bytes : List ℕ) → 4096 < length bytes → read_of bytes ≡ read.Refused (record { fault = fault.Length; place = 4096 })
unfolding read_of
read_long bytes h = simp (lt-leb (length bytes) 4096 h)

pub read_short : (bytes : List ℕ) → length bytes ≤ 4096 → read_of bytes ≡ check (length bytes) start (records_at bytes 0)
unfolding read_of
read_short bytes h = simp (le-leb (length bytes) 4096 h)

-- a verdict of the record at a place, and the answer that was due there
pub go_on : (bytes : List ℕ) (t : Tally) (at kind size : ℕ) (v : Verdict) → at < length bytes
    → v ≡ judge_of t (record_at at (get_or bytes at 0) (drop (at + 1) bytes)) → kind ≡ get_or bytes at 0 → size ≡ body_size kind
    → check (length bytes) t (records_at bytes at) ≡ read_of bytes
    → onward (length bytes) t (records_at bytes (at + 1 + size)) v ≡ read_of bytes
go_on bytes t at kind size v h judged k s due =
    (λ i. onward (length bytes) t (records_at bytes (at + 1 + (s ∙ ap body_size k) i)) (judged i))
    ∙ sym (check_on bytes t at (length bytes) h) ∙ due

-- what is accepted is short
pub counted_short : (bytes : List ℕ) (n l g : ℕ) → read_of bytes ≡ read.Counted n l g → length bytes ≤ 4096
counted_short bytes n l g e = go (dec_le (length bytes) 4096)
  where
    go : Dec (length bytes ≤ 4096) → length bytes ≤ 4096
    go (yes h) = h
    go (no h) = absurd (clash (read_long bytes (omega arith)))
      where
        clash : read_of bytes ≡ read.Refused (record { fault = fault.Length; place = 4096 }) → ⊥
        clash r = let z : ◌≡◌ {A = ℕ} 0 1 = cc in omega arith
