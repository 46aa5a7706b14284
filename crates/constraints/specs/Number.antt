-- How many demands k rounds have.
use Rattle.std.specs.Prelude.{◌≡◌, refl, cond, List, [], ◌∷◌, ◌++◌, get_or, take, drop}
use Rattle.std.proofs.Common.{sym, ◌∙◌, length-take-le, take-add, drop_at}
use Rattle.std.proofs.Math.Path.{ap}
use Prim.Native.Nat.{ℕ, zero, suc, ◌+◌, ◌*◌, ◌-◌, ◌≤◌}
use native.Mathlib.Omega.{arith}
use Rattle.std.proofs.Math.ListN.{length, length-append}
use Rattle.std.proofs.Math.Seq.{slice, slice_empty}
use Rattle.std.proofs.lemmas.List.{drop-append-le}
use Rattle.table.specs.Step.{Step, step_at, steps_from, steps_of, Good}
use Rattle.table.specs.declared.Guard.{Guard}
use Rattle.table.specs.declared.Relation.{Relation}
use Rattle.table.specs.declared.Relation.TheVariants.{Under, AtMost, Exactly, AtLeast, Over}
use Rattle.table.specs.declared.Table.{Table}
use Rattle.runs.specs.Run.{copies, zeroed}
use Rattle.runs.specs.declared.Start.{Start}
use Rattle.table.specs.Step.{up_of, down_of, end_of}
use Rattle.runs.specs.Demand.{guard_demands, demands_at, guards_demands, steps_demands, start_demands, starts_of}
use Rattle.runs.specs.DemandOrder.{demands_is}
use Rattle.constraints.specs.Pieces.{twice_of}
use Rattle.constraints.specs.Demands.{demands_of}
use Rattle.constraints.specs.Partner.{partners_of, starts_number}

-- ---- of a guard, and of guards: they do not depend on the moment, nor on the last resets
abbrev pub guard_number : Relation → ℕ
guard_number r = cond (twice_of r) 2 1

unfoldable pub guards_number : List Guard → ℕ
guards_number [] = 0
guards_number (g ∷ gs) = guard_number g.relation + guards_number gs

guard_number_lem : (r : Relation) (u d z e : ℕ) → length (guard_demands r u d z e) ≡ guard_number r
guard_number_lem Under u d z e = refl
guard_number_lem AtMost u d z e = refl
guard_number_lem Exactly u d z e = refl
guard_number_lem AtLeast u d z e = refl
guard_number_lem Over u d z e = refl

guards_number_lem : (gs : List Guard) (i : ℕ) (z : ℕ → ℕ) → length (guards_demands gs i z) ≡ guards_number gs
unfolding guards_demands guards_number
guards_number_lem [] i z = refl
guards_number_lem (g ∷ gs) i z =
    let one = demands_at g i z in
    length-append one (guards_demands gs i z)
    ∙ λ j. guard_number_lem g.relation (up_of g) (down_of g) (z g.clock) (end_of g.second i z) j + guards_number_lem gs i z j

guards_append : (gs hs : List Guard) → guards_number (gs ++ hs) ≡ guards_number gs + guards_number hs
unfolding guards_number
guards_append [] hs = omega arith
guards_append (g ∷ gs) hs = omega (arith, guards_append gs hs)

-- the law for a walk over the guards of a table
pub guards_nil : guards_number [] ≡ 0
unfolding guards_number
guards_nil = refl

pub guards_cons : (g : Guard) (gs : List Guard) → guards_number (g ∷ gs) ≡ guard_number g.relation + guards_number gs
unfolding guards_number
guards_cons g gs = refl

-- ---- of steps, and of rounds
steps_number : List Step → ℕ
steps_number [] = 0
steps_number (s ∷ σ) = 1 + guards_number s.guards + steps_number σ

steps_number_lem : (σ : List Step) (i : ℕ) (z : ℕ → ℕ) → length (steps_demands σ i z) ≡ steps_number σ
unfolding steps_demands steps_number
steps_number_lem [] i z = refl
steps_number_lem (s ∷ σ) i z =
    omega (
      arith,
      length-append (guards_demands s.guards (suc i) z) (steps_demands σ (suc i) (zeroed s (suc i) z)),
      guards_number_lem s.guards (suc i) z,
      steps_number_lem σ (suc i) (zeroed s (suc i) z),
    )

steps_append : (σ τ : List Step) → steps_number (σ ++ τ) ≡ steps_number σ + steps_number τ
unfolding steps_number
steps_append [] τ = omega arith
steps_append (s ∷ σ) τ = omega (arith, steps_append σ τ)

rounds_number : (σ : List Step) (k : ℕ) → steps_number (copies σ k) ≡ k * steps_number σ
unfolding copies steps_number
rounds_number σ zero = omega arith
rounds_number σ (suc k) = omega (arith, steps_append σ (copies σ k), rounds_number σ k)

-- ---- of the steps of a table, whose guards stand one after the other
slice_append : (a b c : ℕ) (l : List Guard) → a ≤ b → b ≤ c → c ≤ length l → slice a c l ≡ slice a b l ++ slice b c l
slice_append a b c l p q r =
    let n : c ≡ b + (c - b) = omega arith in
    let m : length (take b l) ≡ b = length-take-le b l (omega arith) in
    let later = take (c - b) (drop b l) in
    let e : take c l ≡ take b l ++ later = ap (λ j. take j l) n ∙ take-add b (c - b) l in
    ap (drop a) e ∙ drop-append-le a (take b l) later (omega arith)
    ∙ ap (λ x. slice a b l ++ x) (sym (ap (drop b) e ∙ drop_at (take b l) later b m))

module _ (t : Table) (good : Good t) where
  abbrev end : ℕ → ℕ
  end i = get_or t.ends i 0

  pub ends_order : (i n : ℕ) → i + n ≤ t.steps → end i ≤ end (i + n)
  ends_order i zero h = let e : i + 0 ≡ i = omega arith in rw e (omega arith)
  ends_order i (suc n) h =
      let e : i + suc n ≡ i + n + 1 = omega arith in
      rw e (omega (arith, ends_order i n (omega arith), good.order (i + n) (omega arith)))

  table_number : (i n : ℕ) → i + n ≤ t.steps
      → steps_number (steps_from t i n) ≡ n + guards_number (slice (end i) (end (i + n)) t.guards)
  unfolding steps_from step_at steps_number guards_number
  table_number i zero h = let e : i + 0 ≡ i = omega arith in rw (e, slice_empty)
  table_number i (suc n) h =
      let e : i + suc n ≡ i + 1 + n = omega arith in
      let f : suc i ≡ i + 1 = omega arith in
      let room = good.room (i + 1 + n) (omega arith) in
      let l = slice_append (end i) (end (i + 1)) (end (i + 1 + n)) t.guards (good.order i (omega arith))
      (ends_order (i + 1) n (omega arith)) (omega (arith, room, good.guards_size)) in
      rw (e, f)
      (omega (
        arith,
        table_number (i + 1) n (omega arith),
        ap guards_number l,
        guards_append (slice (end i) (end (i + 1)) t.guards) (slice (end (i + 1)) (end (i + 1 + n)) t.guards),
      ))

  -- k times one for each step and those of all guards; and for each clock one and its partners
  pub demands_number : (v : Start) (k : ℕ) → length (demands_of t v k)
      ≡ k * (t.steps + guards_number (slice (end 0) (end t.steps) t.guards)) + t.clocks * (1 + partners_of v)
  unfolding steps_of
  demands_number v k =
      let σ = copies (steps_of t) k in
      let e : 0 + t.steps ≡ t.steps = omega arith in
      let one : steps_number (steps_from t 0 t.steps)
      ≡ t.steps + guards_number (slice (end 0) (end t.steps) t.guards) =
      table_number 0 t.steps (omega arith) ∙ ap (λ n. t.steps + guards_number (slice (end 0) (end n) t.guards)) e in
      omega (
        arith,
        ap length (demands_is t.clocks σ (starts_of v)),
        length-append (steps_demands σ 0 (λ j. length σ + j)) (start_demands (length σ) (starts_of v) 1 t.clocks),
        steps_number_lem σ 0 (λ j. length σ + j),
        rounds_number (steps_of t) k,
        ap (λ n. k * n) one,
        starts_number v (length σ) 1 t.clocks,
      )
