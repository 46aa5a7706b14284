-- What reading a part of a table comes to, an item or the rest of a stretch: the answer goes on from the place after it, with the tally
-- written out.
use Rattle.std.specs.Prelude.{◌≡◌, ◌≢◌, Bool, true, false, cond, ◌||◌, List, ℕ, ◌+◌, ◌≤◌, ◌<◌, eqb, ltb, leb, length, get_or}
use Rattle.table.specs.declared.Fault.{Fault}
use Rattle.table.specs.declared.Fault.TheVariants as fault
use Rattle.table.specs.declared.Read.{Read}
use Rattle.table.specs.declared.Read.TheVariants as read
use Rattle.records.specs.declared.Tally.{Tally}
use Rattle.records.specs.Rules.{body_size, within}
use Rattle.wire.specs.Records.{records_at}
use Rattle.stretches.specs.declared.Open.{Open}
use Rattle.stretches.specs.declared.Part.{Part}
use Rattle.stretches.specs.declared.Part.TheVariants as part
use Rattle.stretches.specs.Reading.{at_close, check_in}

-- ---- one record, as a part

-- a test, or else a fault at a place
abbrev pub part_else : Bool → Fault → ℕ → Part → Part
part_else true f place then = then
part_else false f place then = part.Refused (record { fault = f; place = place })

-- the close of a stretch after its last item
unfoldable pub closed_of : Tally → ℕ → Open → Part
closed_of t place o =
    part_else (ltb o.steps t.steps) fault.Stretch place
    (part_else (leb (at_close t o).steps 16) fault.Steps place
    (part_else (leb (at_close t o).guards 64) fault.Bounds place
    (part.Read (at_close t o) (place + 1))))

-- the kinds that stand between steps only: the end, and those of a stretch
abbrev pub stands_between : ℕ → Bool
stands_between k = eqb k 5 || within 7 k 8

-- what is wrong with them in an unfinished step, where so many bytes follow and so many stretches are open
unfoldable pub unfinished_of : ℕ → ℕ → ℕ → Fault
unfinished_of k left depth =
    cond (eqb k 5) (cond (eqb depth 0) fault.Steps fault.Stretch)
    (cond (leb (body_size k) left) fault.Stretch fault.Cut)

-- ---- the answer after a part

-- where these stretches are open then
abbrev pub resumed : List ℕ → List Open → Part → Read
resumed bytes stack (part.Refused f) = read.Refused f
resumed bytes stack (part.Read u next) = check_in (length bytes) u stack (records_at bytes next)

-- the tally after a part, and the place after it
pub record Past (t : Tally) (at : ℕ) (u : Tally) (next : ℕ) : Type 0 where
  pub past : at < next
  pub steps : t.steps ≤ u.steps
  pub guards : t.guards ≤ u.guards
  pub few : u.steps ≤ 16
  pub room : u.guards ≤ 64
  pub none : u.pending ≡ 0

abbrev pub Grown : Tally → ℕ → Part → Type 0
Grown t at (part.Refused f) = Unit {0}
Grown t at (part.Read u next) = Past t at u next

-- the part closes none of the stretches that are open
abbrev pub same : List Open → List Open
same stack = stack

-- A part from a place on is read: where so many stretches are open, of which the part closes the last `push` of them, the answer of
-- the records from there is that after the part.
pub record Reads (bytes : List ℕ) (t : Tally) (at depth : ℕ) (push : List Open → List Open) (r : Part) : Type 0 where
  pub goes_on : (stack : List Open) → length (push stack) ≡ depth
      → check_in (length bytes) t (push stack) (records_at bytes at) ≡ resumed bytes stack r
  pub grown : Grown t at r

-- a tally within the limits, at a place after the head
pub record Within (bytes : List ℕ) (at : ℕ) (t : Tally) : Type 0 where
  pub later : 0 < at
  pub short : length bytes ≤ 4096
  pub few : t.steps ≤ 16
  pub room : t.guards ≤ 64

-- between two steps
pub record Begins (bytes : List ℕ) (at : ℕ) (t : Tally) : Type 0 where
  pub limits : Within bytes at t
  pub none : t.pending ≡ 0

-- a step goes on, or begins with one of its own records
pub record StepAt (bytes : List ℕ) (at : ℕ) (t : Tally) : Type 0 where
  pub limits : Within bytes at t
  pub own : t.pending ≡ 0 → stands_between (get_or bytes at 0) ≡ false

-- an item begins: not the end of the table, nor the close of a stretch
pub record ItemAt (bytes : List ℕ) (at : ℕ) (t : Tally) : Type 0 where
  pub begins : Begins bytes at t
  pub here : at < length bytes
  pub no_end : get_or bytes at 0 ≢ 5
  pub no_close : get_or bytes at 0 ≢ 8

-- within a stretch that is open, after some items
pub record InStretch (t : Tally) (o : Open) : Type 0 where
  pub some : 1 ≤ o.times
  pub times : o.times ≤ 16
  pub after : o.steps ≤ t.steps
  pub more : o.guards ≤ t.guards
  pub few : t.steps ≤ 16
  pub room : t.guards ≤ 64
