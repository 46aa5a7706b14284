-- How demands are written down: four numbers to a demand.
use Rattle.std.specs.Prelude.{Bool, cond, List, [], ◌∷◌, ◌++◌, ℕ, ◌≤◌, ℤ, pos, length, drop}
use Rattle.runs.specs.declared.Demand.{Demand}
use Rattle.runs.specs.Demand.{ticks_of}

-- strict as 1, and not as 0
abbrev pub strict_of : Bool → ℕ
strict_of b = cond b 1 0

-- the four numbers of a demand, and those of all demands in a row
abbrev pub cells_of : Demand → List ℤ
cells_of d = pos d.from ∷ pos d.to ∷ ticks_of d ∷ pos (strict_of d.strict) ∷ []

unfoldable pub cells : List Demand → List ℤ
cells [] = []
cells (d ∷ ds) = cells_of d ++ cells ds

-- some room whose first places are written, and of which the rest is kept
abbrev pub over : {A : Type 0} → List A → List A → List A
over new old = new ++ drop (length new) old

-- a demand of few moments with a small bound
pub record Small (d : Demand) : Type 0 where
  pub from : d.from ≤ 2048
  pub to : d.to ≤ 2048
  pub up : d.up ≤ 4000
  pub down : d.down ≤ 4000
