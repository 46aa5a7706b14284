-- The table that accepted bytes write down, and its steps.
use Rattle.std.specs.Prelude.{Bool, true, false, cond, List, [], ◌∷◌, ◌++◌, map, ℕ, ◌+◌, eqb, set, replicate}
use Rattle.table.specs.declared.Guard.{Guard}
use Rattle.table.specs.Step.{Step}
use Rattle.records.specs.Rules.{relation_of}
use Rattle.wire.specs.Records.{Record, records}
use Rattle.wire.specs.Reading.{byte, constant_of}

-- a guard (01: bound) or a reset (zeroing) of a clock, as one record of a step
pub data Entry : Type 0 where
  guard : Guard → Entry
  reset : ℕ → Entry

-- A table as it is written: guards and resets of a step stand in any order, and it is kept.
pub record Listing : Type 0 where
  pub clocks : ℕ
  pub steps : List (List Entry)

-- what a record says
pub data Content : Type 0 where
  head : ℕ → Content
  entry : Entry → Content
  finish : Content
  close : Content

abbrev pub guard_in : Record → Guard
guard_in r = record { clock = byte r 0; second = 0; relation = relation_of (byte r 1); minus = false; constant = constant_of r }

abbrev pub content_of : Record → Content
content_of r =
    cond (eqb r.kind 1) (head (byte r 0))
    (cond (eqb r.kind 2) (entry (guard (guard_in r)))
    (cond (eqb r.kind 3) (entry (reset (byte r 0)))
    (cond (eqb r.kind 4) finish
    close)))

-- the steps that the records finish, of which the first has begun with some entries
unfoldable pub steps_in : List Entry → List Record → List (List Entry)
steps_in begun [] = []
steps_in begun (r ∷ rs) =
    elim (content_of r) [
      | head n ↦ steps_in begun rs
      | entry e ↦ steps_in (begun ++ (e ∷ [])) rs
      | finish ↦ begun ∷ steps_in [] rs
      | close ↦ []
    ]

-- the clocks that the first record, a head, gives
abbrev pub clocks_in : List Record → ℕ
clocks_in [] = 0
clocks_in (r ∷ rs) = byte r 0

-- the table that bytes write down, if they are accepted
unfoldable pub listing : List ℕ → Listing
listing bytes = record { clocks = clocks_in (records bytes); steps = steps_in [] (records bytes) }

-- the guards among the entries of a step, in order
unfoldable pub guards_of : List Entry → List Guard
guards_of [] = []
guards_of (guard g ∷ es) = g ∷ guards_of es
guards_of (reset j ∷ es) = guards_of es

-- the clocks that they reset, in order
unfoldable pub resets_of : List Entry → List ℕ
resets_of [] = []
resets_of (guard g ∷ es) = resets_of es
resets_of (reset j ∷ es) = j ∷ resets_of es

-- the flags of a step, with its resets set one after the other
unfoldable pub flagged : List Bool → List Entry → List Bool
flagged flags [] = flags
flagged flags (guard g ∷ es) = flagged flags es
flagged flags (reset j ∷ es) = flagged (set flags j true) es

-- what the entries of a step mean
unfoldable pub step_of : List Entry → Step
step_of es = record { guards = guards_of es; flags = flagged (replicate 7 false) es }

-- the steps of a table
abbrev pub cycle : Listing → List Step
cycle l = map step_of l.steps
