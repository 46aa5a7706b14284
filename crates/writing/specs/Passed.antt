-- The row while the demands of k rounds are written to it: how far it is.
use Rattle.std.specs.Prelude.{◌≡◌, List, ◌++◌, ℕ, ◌+◌, ◌*◌, ◌≤◌, ◌<◌, ℤ, length, get_or, drop}
use Rattle.table.specs.Step.{steps_of}
use Rattle.table.specs.declared.Table.{Table}
use Rattle.runs.specs.Run.{copies}
use Rattle.runs.specs.declared.Demand.{Demand}
use Rattle.runs.specs.declared.Start.{Start}
use Rattle.runs.specs.Demand.{steps_demands, start_demands, starts_of}
use Rattle.constraints.specs.Pieces.{reset_of}
use Rattle.constraints.specs.Demands.{demands_of, guards_from}
use Rattle.cells.specs.Writing.{Left}

-- the demands of the clocks' starts, and those of the steps after i steps and these
abbrev pub starts_due : Table → Start → ℕ → List Demand
starts_due t v k = start_demands (k * t.steps) (starts_of v) 1 t.clocks

abbrev pub steps_due : Table → ℕ → ℕ → List ℕ → List Demand
steps_due t k i z = steps_demands (drop i (copies (steps_of t) k)) i (λ j. get_or z j 0)

-- the demands of the guards of step s, at moment i + 1, from place g on, and those of the steps after it
abbrev pub guards_due : Table → ℕ → ℕ → List ℕ → ℕ → List Demand
guards_due t s i z g = guards_from t s (i + 1) z g

abbrev pub later_due : Table → Start → ℕ → ℕ → ℕ → List ℕ → List Demand
later_due t v k s i z = steps_due t k (i + 1) (reset_of t.resets s (i + 1) z) ++ starts_due t v k

-- the row, which was `old`, when i steps are written to its first q places, and step s is next
pub record Passed (t : Table) (v : Start) (k : ℕ) (old row : List ℤ) (q i s : ℕ) (z : List ℕ) : Type 0 where
  pub round : ℕ
  pub step : s < t.steps
  pub steps : i ≡ round * t.steps + s
  pub few : i ≤ k * t.steps
  pub resets : length z ≡ 7
  pub left : Left old 0 (demands_of t v k) row q (steps_due t k i z ++ starts_due t v k)

-- the row, which was `old`, when the demands of step s's guards before place g are written to its places from o up to q
pub record Inside (t : Table) (old row : List ℤ) (o q i s g : ℕ) (z : List ℕ) : Type 0 where
  pub step : s < t.steps
  pub resets : length z ≡ 7
  pub first : get_or t.ends s 0 ≤ g
  pub last : g ≤ get_or t.ends (s + 1) 0
  pub left : Left old o (guards_due t s i z (get_or t.ends s 0)) row q (guards_due t s i z g)
