-- What is refused after the table: 01's rows 11 to 14, in their order, with place 0.
use Rattle.std.specs.Prelude.{Bool, cond, ◌&&◌, ℕ, ◌+◌, ◌*◌, leb}
use Rattle.table.specs.Refusal.{placeless}
use Rattle.table.specs.declared.Fault.{Fault}
use Rattle.table.specs.declared.Fault.TheVariants as fault
use Rattle.asking.specs.declared.Admission.{Admission}
use Rattle.asking.specs.declared.Admission.TheVariants.{Refused, Accepted}

-- refused for a fault, with place 0; and so unless the test holds
abbrev pub refused_for : Fault → Admission
refused_for f = Refused (placeless f)

abbrev pub need : Bool → Fault → Admission → Admission
need b f rest = cond b rest (refused_for f)

-- k is not 0, and k rounds of L steps have at most 1024 steps
abbrev pub in_range : ℕ → ℕ → Bool
in_range k L = leb 1 k && leb (k * L) 1024

-- a plan for k rounds: n clocks, L steps, and the lengths of the three rooms
unfoldable pub admit_of : ℕ → ℕ → ℕ → ℕ → ℕ → ℕ → Admission
admit_of n L k times starts loop =
    need (in_range k L) fault.Rounds
    (need (leb (k * L) times) fault.Times
    (need (leb n starts) fault.Starts
    (need (leb (k * L + n + 1) loop) fault.Loop
    Accepted)))
