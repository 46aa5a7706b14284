-- The demands of k rounds are few.
use Rattle.std.specs.Prelude.{refl, List, [], ◌∷◌, ℕ, zero, suc, ◌+◌, ◌*◌, ◌≤◌, ◌<◌, length, get_or}
use Rattle.std.proofs.Common.{ap, arith, mul-le-mul_left, length-append}
use mathlib.Core.List.Memᴰ
use Rattle.std.proofs.Math.Seq.{length-slice}
use Rattle.table.specs.Step.{Step, step_at, steps_from, steps_of, Good}
use Rattle.table.specs.declared.Guard.{Guard}
use Rattle.table.specs.declared.Relation.{Relation}
use Rattle.table.specs.declared.Relation.TheVariants.{Under, AtMost, Exactly, AtLeast, Over}
use Rattle.table.specs.declared.Table.{Table}
use Rattle.runs.specs.Run.{copies, zeroed}
use Rattle.runs.specs.declared.Start.{Start}
use Rattle.table.specs.Step.{up_of, down_of, end_of}
use Rattle.runs.specs.Demand.{guard_demands, demands_at, guards_demands, steps_demands, start_demands, starts_of}
use Rattle.runs.specs.DemandOrder.{demands_is}
use Rattle.runs.specs.Copies.{copies_member}
use Rattle.runs.specs.Tools.{Every, every_nil, every_cons}
use Rattle.constraints.specs.Demands.{demands_of}
use Rattle.constraints.specs.Rounds.{length_rounds}
use Rattle.constraints.specs.Partner.{partners_few, starts_number}

-- ---- a guard has at most two
guard_few : (r : Relation) (u d z e : ℕ) → length (guard_demands r u d z e) ≤ 2
guard_few Under u d z e = omega arith
guard_few AtMost u d z e = omega arith
guard_few Exactly u d z e = omega arith
guard_few AtLeast u d z e = omega arith
guard_few Over u d z e = omega arith

pub guards_few : (gs : List Guard) (i : ℕ) (z : ℕ → ℕ) → length (guards_demands gs i z) ≤ 2 * length gs
unfolding guards_demands
guards_few [] i z = omega arith
guards_few (g ∷ gs) i z =
    let one = demands_at g i z in
    omega (
      arith,
      length-append one (guards_demands gs i z),
      guards_few gs i z,
      guard_few g.relation (up_of g) (down_of g) (z g.clock) (end_of g.second i z),
    )

-- ---- a step one more, and has at most 64 guards
abbrev Few : Step → Type 0
Few s = length s.guards ≤ 64

steps_few : (σ : List Step) (i : ℕ) (z : ℕ → ℕ) → Every Few σ → length (steps_demands σ i z) ≤ 129 * length σ
unfolding steps_demands
steps_few [] i z f = omega arith
steps_few (s ∷ σ) i z f =
    let own = guards_demands s.guards (suc i) z in
    let others = steps_demands σ (suc i) (zeroed s (suc i) z) in
    omega (
      arith,
      length-append own others,
      guards_few s.guards (suc i) z,
      f s (Memᴰ.head refl),
      steps_few σ (suc i) (zeroed s (suc i) z) (λ q m. f q (Memᴰ.tail m)),
    )

step_few : (t : Table) (i : ℕ) → Good t → i < t.steps → Few (step_at t i)
unfolding step_at
step_few t i good l =
    let room = good.room (i + 1) (omega arith) in
    omega (
      arith,
      length-slice (get_or t.ends i 0) (get_or t.ends (i + 1) 0) t.guards
          (omega (arith, good.guards_size, room)),
      room,
    )

table_few : (t : Table) (i n : ℕ) → Good t → i + n ≤ t.steps → Every Few (steps_from t i n)
unfolding steps_from
table_few t i zero good b = every_nil Few
table_few t i (suc n) good b =
    (every_cons Few (step_at t i) (steps_from t (suc i) n)).1 (
      step_few t i good (omega arith),
      table_few t (suc i) n good (omega arith),
    )

-- There are at most 129 for each step, and two for each clock.
pub demands_few : (t : Table) (v : Start) (k : ℕ) → Good t → length (demands_of t v k) ≤ 129 * (k * t.steps) + t.clocks * 2
unfolding steps_of
demands_few t v k good =
    let σ = copies (steps_of t) k in
    let few : Every Few σ = λ s m. table_few t 0 t.steps good (omega arith) s (copies_member (steps_of t) k m) in
    omega (
      arith,
      ap length (demands_is t.clocks σ (starts_of v)),
      length_rounds t k,
      length-append (steps_demands σ 0 (λ j. length σ + j)) (start_demands (length σ) (starts_of v) 1 t.clocks),
      steps_few σ 0 (λ j. length σ + j) few,
      starts_number v (length σ) 1 t.clocks,
      mul-le-mul_left t.clocks (partners_few v),
    )

-- So in 1024 steps at most 132108.
pub demands_bounded : (t : Table) (v : Start) (k : ℕ) → Good t → k * t.steps ≤ 1024
    → length (demands_of t v k) ≤ 1024 * 129 + 12
demands_bounded t v k good few = omega (arith, demands_few t v k good, good.clocks_few)
