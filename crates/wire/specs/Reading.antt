-- Records to the answer: a record's kind, place and length are tested first, then its body, and the first fault counts.
use Rattle.std.specs.Prelude.{cond, List, ℕ, ◌+◌, ◌*◌, eqb, leb, length, get_or}
use Rattle.table.specs.declared.Fault.TheVariants as fault
use Rattle.table.specs.declared.Read.{Read}
use Rattle.table.specs.declared.Read.TheVariants as read
use Rattle.records.specs.declared.Tally.{Tally}
use Rattle.records.specs.declared.Verdict.{Verdict}
use Rattle.records.specs.Rules.{need, in_order, within, body_size, headed, guarded, cleared, finished, ended}
use Rattle.records.specs.Checking.{start, tail_of, check_of}
use Rattle.wire.specs.Records.{Record, records}

-- byte i, from 0, of a record's body
abbrev pub byte : Record → ℕ → ℕ
byte r i = get_or r.body i 0

-- the constant of a guard's record: two bytes, the low one first
abbrev pub constant_of : Record → ℕ
constant_of r = byte r 2 + byte r 3 * 256

-- a whole record, by its kind
unfoldable pub whole_of : Tally → Record → Verdict
whole_of t r =
    cond (eqb r.kind 1) (headed r.place (byte r 0))
    (cond (eqb r.kind 2) (guarded t r.place (byte r 0) (byte r 1) (constant_of r))
    (cond (eqb r.kind 3) (cleared t r.place (byte r 0))
    (cond (eqb r.kind 4) (finished t r.place)
    (ended t r.place))))

-- a record: its kind, its place as or after the head, its length, and then its body
unfoldable pub judge_of : Tally → Record → Verdict
judge_of t r =
    need (within 1 r.kind 5) fault.Kind r.place
    (in_order (eqb r.kind 1) r.place
    (need (leb (body_size r.kind) (length r.body)) fault.Cut r.place
    (whole_of t r)))

-- after the end no record begins
abbrev pub tail : Tally → List Record → Read
tail = tail_of (λ r. r.place)

-- the records from the left, in a table of a length
abbrev pub check : ℕ → Tally → List Record → Read
check = check_of (λ r. r.place) judge_of

-- the answer to the question "read"
unfoldable pub read_of : List ℕ → Read
read_of bytes =
    cond (leb (length bytes) 4096)
    (check (length bytes) start (records bytes))
    (read.Refused (record { fault = fault.Length; place = 4096 }))
