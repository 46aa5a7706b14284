-- Demands as records, and the list that holds them.
use Rattle.std.specs.Prelude.{List, map, ℕ, min, ℤ, length}
use Rattle.runs.specs.declared.Demand.{Demand}
use Rattle.runs.specs.declared.Start.{Start}
use Rattle.runs.specs.Demand.{ticks_of}
use Rattle.asking.specs.Rounds.{demands_in}
use Rattle.cells.specs.Lines.{strict_of}
use Rattle.demands.specs.Listed.{listed_of, row_room, unless_refused}
use Rattle.demand_list.specs.declared.Line.{Line}

-- a demand as a record, and all demands as a list of records
abbrev pub line_of : Demand → Line
line_of d = record { from = d.from; to = d.to; bound = ticks_of d; strict = strict_of d.strict }

abbrev pub lines : List Demand → List Line
lines = map line_of

-- for how many demands there is room, in the row and in the list
abbrev pub list_room : List ℤ → List Line → ℕ
list_room row list = min (row_room row) (length list)

-- the list at exit: the demands, and then the rest as it was
unfoldable pub list_of : List ℕ → Start → ℕ → ℕ → List Line → List Line
list_of bytes v k room list = unless_refused (listed_of bytes v k room) (lines (demands_in bytes v k)) list
