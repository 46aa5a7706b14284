-- The question "demands for k": its answer, and what is written.
use Rattle.std.specs.Prelude.{Bool, true, false, List, ℕ, ◌/◌, leb, ℤ, length}
use Rattle.table.specs.Refusal.{placeless}
use Rattle.table.specs.declared.Fault.{Fault}
use Rattle.table.specs.declared.Fault.TheVariants as fault
use Rattle.table.specs.declared.Read.TheVariants.{Counted, Refused as Denied}
use Rattle.runs.specs.declared.Start.{Start}
use Rattle.wire.specs.Reading.{read_of}
use Rattle.asking.specs.Admission.{in_range}
use Rattle.asking.specs.Rounds.{demands_in}
use Rattle.cells.specs.Lines.{cells, over}
use Rattle.demands.specs.declared.Listed.{Listed}
use Rattle.demands.specs.declared.Listed.TheVariants.{Written, Refused}

-- refused for a fault, at place 0; and so unless the test holds
abbrev pub refused_for : Fault → Listed
refused_for f = Refused (placeless f)

abbrev pub need : Bool → Fault → Listed → Listed
need true f then = then
need false f then = refused_for f

-- k rounds of L steps, which have a number of demands, where there is room for so many
unfoldable pub answer_of : ℕ → ℕ → ℕ → ℕ → Listed
answer_of L k count room =
    need (in_range k L) fault.Rounds
    (need (leb count room) fault.List
    (Written count))

-- the answer to the question "demands for k" from the starts of a variant, where there is room for so many demands
unfoldable pub listed_of : List ℕ → Start → ℕ → ℕ → Listed
listed_of bytes v k room =
    elim (read_of bytes) [ Counted n L g ↦ answer_of L k (length (demands_in bytes v k)) room | Denied f ↦ Refused f ]

-- for how many demands a row has room: it has four places to a demand
abbrev pub row_room : List ℤ → ℕ
row_room row = length row / 4

-- what is written where the answer is no refusal
abbrev pub unless_refused : {A : Type 0} → Listed → List A → List A → List A
unless_refused (Written n) new old = over new old
unless_refused (Refused f) new old = old

-- the row at exit: the demands, and then the rest as it was
unfoldable pub row_of : List ℕ → Start → ℕ → ℕ → List ℤ → List ℤ
row_of bytes v k room row = unless_refused (listed_of bytes v k room) (cells (demands_in bytes v k)) row
