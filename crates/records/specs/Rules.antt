-- The tests of one record, whose fields are numbers: in the order of 01's rows, from the left, and the first fault counts.
use Rattle.std.specs.Prelude.{Bool, true, false, cond, not, ◌&&◌, ℕ, ◌+◌, ◌/◌, ◌%◌, ◌^◌, eqb, ltb, leb}
use Rattle.std.specs.Int.Bits.{bit_or}
use Rattle.table.specs.declared.Fault.{Fault}
use Rattle.table.specs.declared.Fault.TheVariants as fault
use Rattle.table.specs.declared.Relation.{Relation}
use Rattle.table.specs.declared.Relation.TheVariants.{Under, AtMost, Exactly, AtLeast, Over}
use Rattle.records.specs.declared.Tally.{Tally}
use Rattle.records.specs.declared.Verdict.{Verdict}
use Rattle.records.specs.declared.Verdict.TheVariants.{Refused, Next, Last}

-- the length of a body, by the kind: a head 1, a bound 4, a zeroing 1, a repeat 1, any other none
abbrev pub body_size : ℕ → ℕ
body_size k = cond (eqb k 1) 1 (cond (eqb k 2) 4 (cond (eqb k 3) 1 (cond (eqb k 7) 1 0)))

-- 0 under, 1 at most, 2 exactly, 3 at least, 4 over
abbrev pub relation_of : ℕ → Relation
relation_of c = cond (eqb c 0) Under (cond (eqb c 1) AtMost (cond (eqb c 2) Exactly (cond (eqb c 3) AtLeast Over)))

-- refused for a fault at a place, unless the test holds
abbrev pub need : Bool → Fault → ℕ → Verdict → Verdict
need true f place then = then
need false f place then = Refused (record { fault = f; place = place })

-- both tests hold, or neither
abbrev pub agree : Bool → Bool → Bool
agree true b = b
agree false b = not b

-- a head is the first record, at place 0, and no other is
abbrev pub in_order : Bool → ℕ → Verdict → Verdict
in_order isHead place then = need (agree (eqb place 0) isHead) fault.Head place then

-- a number from one to another
abbrev pub within : ℕ → ℕ → ℕ → Bool
within low x high = leb low x && leb x high

-- What the step under way has so far, as a number of 32 binary digits: digit 0 is 1 where it has a guard, digit j where it resets
-- clock j. Whether digit j is 0, and the number with digit j made 1:
unfoldable pub is_free : ℕ → ℕ → Bool
is_free pending j = eqb (pending / 2 ^ (j % 32) % 2) 0

unfoldable pub marked : ℕ → ℕ → ℕ
marked pending j = bit_or pending (2 ^ (j % 32))

-- a head at a place, with a number of clocks
unfoldable pub headed : ℕ → ℕ → Verdict
headed place n =
    need (within 1 n 6) fault.Head place
    (Next (record { clocks = n; steps = 0; guards = 0; pending = 0 }))

-- a guard: clock, relation, constant
unfoldable pub guarded : Tally → ℕ → ℕ → ℕ → ℕ → Verdict
guarded t place clock relation constant =
    need (ltb t.guards 64) fault.Bounds place
    (need (within 1 clock t.clocks) fault.Timer place
    (need (leb relation 4) fault.Relation place
    (need (leb constant 4000) fault.Constant place
    (Next
    (record {
      clocks = t.clocks;
      steps = t.steps;
      guards = t.guards + 1;
      pending = marked t.pending 0;
    })))))

-- a reset of a clock that the step does not reset yet
unfoldable pub cleared : Tally → ℕ → ℕ → Verdict
cleared t place clock =
    need (within 1 clock t.clocks) fault.Timer place
    (need (is_free t.pending clock) fault.Twice place
    (Next
    (record {
      clocks = t.clocks;
      steps = t.steps;
      guards = t.guards;
      pending = marked t.pending clock;
    })))

-- a step is finished, and the next one has nothing yet
unfoldable pub finished : Tally → ℕ → Verdict
finished t place =
    need (ltb t.steps 16) fault.Steps place
    (Next (record { clocks = t.clocks; steps = t.steps + 1; guards = t.guards; pending = 0 }))

-- the end
unfoldable pub ended : Tally → ℕ → Verdict
ended t place = need (leb 1 t.steps && eqb t.pending 0) fault.Steps place Last
