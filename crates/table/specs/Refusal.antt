-- 01's numbers for what is refused, and those of 02.
use Rattle.std.specs.Prelude.{Bool, ◌&&◌, ◌||◌, ℕ, eqb, leb}
use Rattle.table.specs.declared.Fault.{Fault}
use Rattle.table.specs.declared.Refusal.{Refusal}
use Rattle.table.specs.declared.Fault.TheVariants.{Length, Cut, Kind, Head, Bounds, Timer, Relation, Constant, Steps, Tail, Rounds, Times, Starts, Loop, List, Twice, Record, Tray, Verdicts, Card, Output, Stretch}

-- a refusal for which no place is named: it has place 0
abbrev pub placeless : Fault → Refusal
placeless f = record { fault = f; place = 0 }

abbrev pub number_of : Fault → ℕ
number_of Length = 1
number_of Cut = 2
number_of Kind = 3
number_of Head = 4
number_of Bounds = 5
number_of Timer = 6
number_of Relation = 7
number_of Constant = 8
number_of Steps = 9
number_of Tail = 10
number_of Rounds = 11
number_of Times = 12
number_of Starts = 13
number_of Loop = 14
number_of List = 15
number_of Twice = 16
number_of Record = 17
number_of Tray = 18
number_of Verdicts = 19
number_of Card = 20
number_of Output = 21
number_of Stretch = 23

-- the numbers of faults in a table's bytes: 1 to 10, and 16
abbrev pub of_table : ℕ → Bool
of_table number = (leb 1 number && leb number 10) || eqb number 16
