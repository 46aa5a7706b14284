-- Tables with repeated stretches: records to the answer, from the left, and the first fault counts. What is counted is the table written
-- out, a stretch that is open once, till its close.
use Rattle.std.specs.Prelude.{Bool, true, false, cond, ◌&&◌, List, [], ◌∷◌, ℕ, ◌+◌, ◌-◌, ◌*◌, eqb, ltb, leb, length}
use Rattle.table.specs.declared.Fault.{Fault}
use Rattle.table.specs.declared.Fault.TheVariants as fault
use Rattle.table.specs.declared.Refusal.{Refusal}
use Rattle.table.specs.declared.Read.{Read}
use Rattle.table.specs.declared.Read.TheVariants as read
use Rattle.records.specs.declared.Tally.{Tally}
use Rattle.records.specs.declared.Verdict.{Verdict}
use Rattle.records.specs.declared.Verdict.TheVariants.{Refused, Next, Last}
use Rattle.records.specs.Rules.{body_size, within}
use Rattle.records.specs.Checking.{start}
use Rattle.wire.specs.Records.{Record, records}
use Rattle.wire.specs.Reading.{byte, judge_of, tail}
use Rattle.stretches.specs.declared.Open.{Open}

-- what is found of a record: a fault; the tally after it, and the stretches that are then open, the innermost first; or that it is the end
pub data Said : Type 0 where
  refused : Refusal → Said
  next : Tally → List Open → Said
  last : Said

-- a verdict on a record that opens and closes nothing
abbrev pub lift : List Open → Verdict → Said
lift stack (Refused f) = refused f
lift stack (Next u) = next u stack
lift stack Last = last

-- a test, or else a fault at a place
abbrev pub or_else : Bool → Fault → ℕ → Said → Said
or_else true f place then = then
or_else false f place then = refused (record { fault = f; place = place })

-- ---- kind 7 opens a stretch (02: repeat)

-- its number is 2 to 16, and fewer than four are open
abbrev pub may_open : ℕ → ℕ → Bool
may_open times depth = within 2 times 16 && ltb depth 4

-- the stretch: how often it comes, and the counts before it
abbrev pub opening : Tally → ℕ → Open
opening t times = record { times = times; steps = t.steps; guards = t.guards }

-- and no step is under way
unfoldable pub opened : Tally → List Open → ℕ → ℕ → Said
opened t stack place times =
    or_else (may_open times (length stack) && eqb t.pending 0) fault.Stretch place
    (next t (opening t times ∷ stack))

-- ---- kind 8 closes the innermost one (02: repeat closed)

-- what has come since some were counted, so often
abbrev pub repeated : ℕ → ℕ → ℕ → ℕ
repeated times before now = before + times * (now - before)

-- the stretch written out
abbrev pub at_close : Tally → Open → Tally
at_close t o =
    record {
      clocks = t.clocks;
      steps = repeated o.times o.steps t.steps;
      guards = repeated o.times o.guards t.guards;
      pending = 0;
    }

-- one is open, no step is under way, and a step has come since; then the limits
unfoldable pub closed : Tally → List Open → ℕ → Said
closed t [] place = refused (record { fault = fault.Stretch; place = place })
closed t (o ∷ stack) place =
    or_else (eqb t.pending 0 && ltb o.steps t.steps) fault.Stretch place
    (or_else (leb (at_close t o).steps 16) fault.Steps place
    (or_else (leb (at_close t o).guards 64) fault.Bounds place
    (next (at_close t o) stack)))

-- ---- one record

-- after the head
abbrev pub after_head : ℕ → Said → Said
after_head place then = cond (eqb place 0) (refused (record { fault = fault.Head; place = place })) then

abbrev pub none_open : List Open → Bool
none_open [] = true
none_open (o ∷ stack) = false

-- kind 5, the end, is inside no stretch; all else is as in a table without stretches
unfoldable pub judge_in : Tally → List Open → Record → Said
judge_in t stack r =
    cond (eqb r.kind 7)
    (after_head r.place
    (or_else (leb (body_size 7) (length r.body)) fault.Cut r.place
    (opened t stack r.place (byte r 0))))
    (cond (eqb r.kind 8)
    (after_head r.place (closed t stack r.place))
    (cond (eqb r.kind 5)
    (or_else (none_open stack) fault.Stretch r.place (lift stack (judge_of t r)))
    (lift stack (judge_of t r))))

-- ---- the records of a table of a length
unfoldable pub check_in : ℕ → Tally → List Open → List Record → Read
check_in len t stack [] = read.Refused (record { fault = fault.Cut; place = len })
check_in len t stack (r ∷ rs) =
    elim (judge_in t stack r) [ refused f ↦ read.Refused f | next u then ↦ check_in len u then rs | last ↦ tail t rs ]

-- The answer to the question "read".
unfoldable pub read_out : List ℕ → Read
read_out bytes =
    cond (leb (length bytes) 4096)
    (check_in (length bytes) start [] (records bytes))
    (read.Refused (record { fault = fault.Length; place = 4096 }))
