-- Tables to bytes: what 01 says the format is, the other way round.
use Rattle.std.specs.Prelude.{List, [], ◌∷◌, ◌++◌, ℕ, ◌+◌, ◌/◌, ◌%◌, ◌≤◌, length}
use mathlib.Core.List.{Memᴰ}
use Rattle.basics.specs.Distinct.{Distinct}
use Rattle.table.specs.declared.Relation.{Relation}
use Rattle.table.specs.declared.Relation.TheVariants.{Under, AtMost, Exactly, AtLeast, Over}
use Rattle.table.specs.Step.{Plain}
use Rattle.wire.specs.Listing.{Entry, guard, reset, Listing, guards_of, resets_of}

abbrev pub relation_code : Relation → ℕ
relation_code Under = 0
relation_code AtMost = 1
relation_code Exactly = 2
relation_code AtLeast = 3
relation_code Over = 4

-- kind 2: clock, relation, constant with the low byte first; kind 3: clock
abbrev pub entry_bytes : Entry → List ℕ
entry_bytes (guard g) = 2 ∷ g.clock ∷ relation_code g.relation ∷ g.constant % 256 ∷ g.constant / 256 ∷ []
entry_bytes (reset j) = 3 ∷ j ∷ []

-- the records of a step, and kind 4: it is finished
unfoldable pub step_bytes : List Entry → List ℕ
step_bytes [] = 4 ∷ []
step_bytes (e ∷ es) = entry_bytes e ++ step_bytes es

-- the steps, and kind 5: the end
unfoldable pub steps_bytes : List (List Entry) → List ℕ
steps_bytes [] = 5 ∷ []
steps_bytes (s ∷ ss) = step_bytes s ++ steps_bytes ss

-- kind 1, the head: the number of clocks
unfoldable pub encode : Listing → List ℕ
encode l = 1 ∷ l.clocks ∷ steps_bytes l.steps

-- the number of guards in all
unfoldable pub guard_count : List (List Entry) → ℕ
guard_count [] = 0
guard_count (s ∷ ss) = length (guards_of s) + guard_count ss

-- an entry that a table of n clocks may have
abbrev pub LegalEntry : ℕ → Entry → Type 0
LegalEntry n (guard g) = (1 ≤ g.clock) × (g.clock ≤ n) × (g.constant ≤ 4000) × Plain g
LegalEntry n (reset j) = (1 ≤ j) × (j ≤ n)

-- a step that it may have: of such entries, and no clock is reset twice
pub record LegalStep (n : ℕ) (s : List Entry) : Type 0 where
  pub entries : (e : Entry) → Memᴰ e s → LegalEntry n e
  pub once : Distinct (resets_of s)

abbrev pub LegalSteps : ℕ → List (List Entry) → Type 0
LegalSteps n ss = (s : List Entry) → Memᴰ s ss → LegalStep n s

-- a table within 01's limits
pub record Legal (l : Listing) : Type 0 where
  pub clocks_some : 1 ≤ l.clocks
  pub clocks_few : l.clocks ≤ 6
  pub steps_some : 1 ≤ length l.steps
  pub steps_few : length l.steps ≤ 16
  pub guards_few : guard_count l.steps ≤ 64
  pub each : LegalSteps l.clocks l.steps
