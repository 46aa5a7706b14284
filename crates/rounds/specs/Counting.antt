-- From what the search finds to the answer.
use Rattle.std.specs.Prelude.{◌≡◌, Bool, true, false, ◌↔◌, List, [], ℕ, ◌+◌, ◌-◌, ◌<◌}
use Rattle.std.proofs.Common.{sym, arith}
use Rattle.std.proofs.Math.Logic.Iff.{trans as iff_trans}
use Rattle.table.specs.declared.Table.{Table}
use Rattle.table.specs.Step.{Step, Fair, steps_of, Good}
use Rattle.runs.specs.declared.Start.{Start}
use Rattle.runs.specs.Run.{copies}
use Rattle.runs.specs.Demand.{Starts, starts_of, Exists}
use Rattle.runs.specs.Start.{Upper, upper_places, start_upper}
use Rattle.runs.specs.Tools.{every_nil}
use Rattle.zones.specs.Matrix.{Matrix}
use Rattle.effects.specs.Begins.{Begins}
use Rattle.effects.specs.Count.{limit}
use Rattle.effects.specs.Known.{Known, known_none, known_count}
use Rattle.effects.specs.Starts.{Permits, starts_for, permits, exists_begins, rounds_exist, starts_exist}
use Rattle.rounds.specs.declared.Count.TheVariants.{Finite, Endless}
use Rattle.rounds.specs.Answer.{Counts}
use Rattle.joins.specs.Rounds.{Tabled, good_tabled}
use Rattle.climbing.specs.LeftPart.{clash}
use Rattle.climbing.specs.Ways.{Always, Unending, Down}

-- ---- The answers

module _ (table : Table) (good : Good table) (v : Start) where
  abbrev n : ℕ
  n = table.clocks

  abbrev τ : List Step
  τ = steps_of table

  -- The starts that the variant allows, and their matrix.
  abbrev D : Starts
  D = starts_of v

  abbrev M : Matrix
  M = starts_for (n + 1) v

  t : Tabled τ
  t = good_tabled table good

  b : n < 7
  b = omega (arith, good.clocks_few)

  up : Upper n D
  up = start_upper v n

  matrix_permits : Permits n D M
  matrix_permits = let q : n + 1 - 1 ≡ n = omega arith in rw q (permits n D b (upper_places n D up))

  -- A run of k rounds exists exactly where one begins at a start that this matrix allows.
  exists_is : (k : ℕ) → Exists n D (copies τ k) ↔ Begins M (copies τ k)
  exists_is = rounds_exist n D M b (upper_places n D up) matrix_permits τ t.fair t.some (starts_exist n D up)

  -- No rounds run.
  begins_nil : Begins M []
  begins_nil = exists_begins n D M b (upper_places n D up) matrix_permits [] (every_nil Fair) (starts_exist n D up)

  -- What is known at the end is the count.
  known_counts : (c : ℕ) → Known M τ 0 c → c < limit → Counts n D τ (Finite c)
  known_counts c k l = record {
    runs = λ m. iff_trans (exists_is m) (known_count M τ c k m);
    small = λ d e. let q : d ≡ c = cc in omega arith;
  }

  -- Not one round runs,
  pub counts_none : ¬ Begins M τ → Counts n D τ (Finite 0)
  counts_none h = known_counts 0 (known_none M τ begins_nil h) (omega arith)

  -- or every number of rounds runs,
  pub counts_endless : Always M τ → Counts n D τ Endless
  counts_endless h = record {
    runs = λ k. ((λ r. tt), λ u. (exists_is k).1 (h k));
    small = λ c q. absurd (never c q);
  }
    where
      never : (c : ℕ) → Endless ≡ Finite c → ⊥
      never c q = let z : ◌≡◌ {A = ℕ} 0 1 = cc in omega arith

  -- or the count is found.
  pub counts_finite : (w place c : ℕ) (m : List ℕ) → Down w M τ place 0 c m → Counts n D τ (Finite c)
  counts_finite w place c m h = known_counts c h.counted.known (omega (arith, h.counted.small))

-- What the search finds of a table: the count, or that every number of rounds runs, with an effect at a place of the row m whose left part
-- tells from where.
pub record Finds (t : Table) (v : Start) (endless : Bool) (place count : ℕ) (m : List ℕ) : Type 0 where
  pub counted : endless ≡ false → Counts t.clocks (starts_of v) (steps_of t) (Finite count)
  pub unending : endless ≡ true → Unending (t.clocks + 1) (starts_for (t.clocks + 1) v) (steps_of t) place m

module _ {t : Table} {v : Start} {place count : ℕ} {m : List ℕ} where
  pub finds_count : Counts t.clocks (starts_of v) (steps_of t) (Finite count) → Finds t v false place count m
  finds_count h = record { counted = λ q. h; unending = λ q. absurd (clash q) }

  pub finds_unending : Unending (t.clocks + 1) (starts_for (t.clocks + 1) v) (steps_of t) place m → Finds t v true place count m
  finds_unending h = record { counted = λ q. absurd (clash (sym q)); unending = λ q. h }
