-- An answer that is no refusal is the number of demands, and there is room for them.
use Rattle.std.specs.Prelude.{◌≡◌, refl, Bool, true, false, List, ℕ, ◌≤◌, leb, length}
use Rattle.std.proofs.Common.{leb-true}
use Rattle.table.specs.declared.Fault.TheVariants as fault
use Rattle.table.specs.declared.Refusal.{Refusal}
use Rattle.table.specs.declared.Read.{Read}
use Rattle.table.specs.declared.Read.TheVariants.{Counted, Refused as Denied}
use Rattle.runs.specs.declared.Start.{Start}
use Rattle.wire.specs.Reading.{read_of}
use Rattle.asking.specs.Admission.{in_range}
use Rattle.asking.specs.Rounds.{demands_in}
use Rattle.demands.specs.declared.Listed.{Listed}
use Rattle.demands.specs.declared.Listed.TheVariants.{Written, Refused}
use Rattle.demands.specs.Listed.{need, answer_of, listed_of}

pub data Told (count room : ℕ) : Listed → Type 0 where
  written : count ≤ room → Told count room (Written count)
  refused : {f : Refusal} → Told count room (Refused f)

answer_told_lem : (L k count room : ℕ) → Told count room (answer_of L k count room)
unfolding answer_of
answer_told_lem L k count room = rounds (in_range k L)
  where
    fits : (t : Bool) → leb count room ≡ t → Told count room (need t fault.List (Written count))
    fits true e = written (leb-true count room e)
    fits false e = refused

    rounds : (t : Bool) → Told count room (need t fault.Rounds (need (leb count room) fault.List (Written count)))
    rounds true = fits (leb count room) refl
    rounds false = refused

pub listed_told : (bytes : List ℕ) (v : Start) (k room : ℕ)
    → Told (length (demands_in bytes v k)) room (listed_of bytes v k room)
unfolding listed_of
listed_told bytes v k room = go (read_of bytes)
  where
    go : (r : Read)
        → Told (length (demands_in bytes v k)) room
        (elim r [ Counted n L g ↦ answer_of L k (length (demands_in bytes v k)) room | Denied f ↦ Refused f ])
    go (Counted n L g) = answer_told_lem L k (length (demands_in bytes v k)) room
    go (Denied f) = refused
