-- The difference constraints of a step, between the configuration before it, vertices 0 to w - 1, and the one after it,
-- vertices w to 2 * w - 1: the clocks 1 to w - 1 are looked at.
use Rattle.std.specs.Prelude.{◌≡◌, refl, ◌↔◌, Bool, true, false}
use Rattle.std.proofs.Math.Logic.Iff.{trans as iff_trans}
use mathlib.Core.List.{List, [], ◌∷◌, ◌++◌, Memᴰ}
use Prim.Native.Nat.{ℕ, zero, suc, ◌+◌, ◌*◌, ◌-◌, ◌≤◌, ◌<◌}
use native.Mathlib.Omega.{arith}
use Rattle.table.specs.Step.{Step, resets, up_of, down_of, up_most, down_most, end_of, Fair}
use Rattle.table.specs.declared.Guard.{Guard}
use Rattle.table.specs.declared.Relation.{Relation}
use Rattle.table.specs.declared.Relation.TheVariants.{Under, AtMost, Exactly, AtLeast, Over}
use Rattle.runs.specs.declared.Demand.{Demand}
use Rattle.runs.specs.Demand.{Holds, plus, guard_demands, demands_at, guards_demands}
use Rattle.runs.specs.Satisfies.{Satisfies, guards_satisfies}
use Rattle.runs.specs.Steps.{MetBy, end_map}
use Rattle.runs.specs.Tools.{Every, every_nil, every_cons, every_append}
use Rattle.zones.specs.Matrix.{Solves}
use Rattle.effects.specs.Demands.{matrix_of, matrix_is, each, every_each}
use Rattle.effects.specs.Single.{Moves}

-- The values at a and b are equal.
abbrev pub equal_demands : ℕ → ℕ → List Demand
equal_demands a b = plus a b 0 false ∷ plus b a 0 false ∷ []

-- After the step, clock j was last reset by it, or when it was before.
abbrev pub reset_demands : ℕ → Bool → ℕ → List Demand
reset_demands w true j = equal_demands w (w + j)
reset_demands w false j = equal_demands j (w + j)

-- Clock j was not last reset after the start, and what the step makes of it.
abbrev pub clock_demands : ℕ → Step → ℕ → List Demand
clock_demands w s j = plus 0 j 0 false ∷ reset_demands w (resets s j) j

-- Time does not go back, the clocks, and the guards.
unfoldable pub step_demands : ℕ → Step → List Demand
step_demands w s = plus w 0 0 false ∷ (each (w - 1) (clock_demands w s) ++ guards_demands s.guards w (λ j. j))

-- What they say of a row of values.
pub record Parts (w P : ℕ) (x : ℕ → ℕ) (s : Step) : Type 0 where
  pub later : x 0 ≤ x w
  pub old : (j : ℕ) → 0 < j → j < w → x j ≤ x 0
  pub guarded : (g : Guard) → Memᴰ g s.guards → MetBy P g x (x w)
  pub reset : (j : ℕ) → 0 < j → j < w → resets s j ≡ true → x (w + j) ≡ x w
  pub kept : (j : ℕ) → 0 < j → j < w → resets s j ≡ false → x (w + j) ≡ x j

module _ (P : ℕ) (x : ℕ → ℕ) where
  equal_is : (a b : ℕ) → Satisfies P x (equal_demands a b) ↔ (x a ≡ x b)
  equal_is a b = (
    (λ h. let k = (every_cons (Holds P x) _ _).0 h in
        omega (arith, k.0.holds, ((every_cons (Holds P x) _ _).0 k.1).0.holds)),
    λ e. (every_cons (Holds P x) _ _).1 (
      record { holds = omega arith },
      (every_cons (Holds P x) _ _).1 (record { holds = omega arith }, every_nil (Holds P x)),
    ),
  )

  reset_in : (w j : ℕ) (b : Bool) → (b ≡ true → x (w + j) ≡ x w) → (b ≡ false → x (w + j) ≡ x j)
      → Satisfies P x (reset_demands w b j)
  reset_in w j true h k = (equal_is w (w + j)).1 (omega (arith, h refl))
  reset_in w j false h k = (equal_is j (w + j)).1 (omega (arith, k refl))

  module _ (w : ℕ) (s : Step) where
    clock_is : (j : ℕ) → Satisfies P x (clock_demands w s j)
        ↔ ((x j ≤ x 0) × Satisfies P x (reset_demands w (resets s j) j))
    clock_is j = (
      (λ h. let k = (every_cons (Holds P x) _ _).0 h in (omega (arith, k.0.holds), k.1)),
      λ h. (every_cons (Holds P x) _ _).1 (record { holds = omega (arith, h.0) }, h.1),
    )

    pub step_is : Satisfies P x (step_demands w s) ↔ Parts w P x s
    unfolding step_demands
    step_is = (there, back)
      where
        clocks : Satisfies P x (each (w - 1) (clock_demands w s))
            ↔ ((j : ℕ) → 0 < j → j ≤ w - 1 → Satisfies P x (clock_demands w s j))
        clocks = every_each (Holds P x) (clock_demands w s) (w - 1)

        there : Satisfies P x (step_demands w s) → Parts w P x s
        there h = record {
          later = omega (arith, k.0.holds);
          old = λ j p b. (clock j p b).0;
          guarded = λ g i. rw (end_map x g.second w (λ j. j)) ((guards_satisfies P x s.guards w (λ j. j)).1 l.1 g i);
          reset = λ j p b e. omega (arith, (equal_is w (w + j)).0 (rw e at (clock j p b).1));
          kept = λ j p b e. omega (arith, (equal_is j (w + j)).0 (rw e at (clock j p b).1));
        }
          where
            k : Holds P x (plus w 0 0 false)
                × Satisfies P x (each (w - 1) (clock_demands w s) ++ guards_demands s.guards w (λ j. j))
            k = (every_cons (Holds P x) _ _).0 h

            l : Satisfies P x (each (w - 1) (clock_demands w s)) × Satisfies P x (guards_demands s.guards w (λ j. j))
            l = (every_append (Holds P x) (each (w - 1) (clock_demands w s)) _).0 k.1

            clock : (j : ℕ) → 0 < j → j < w → (x j ≤ x 0) × Satisfies P x (reset_demands w (resets s j) j)
            clock j p b = (clock_is j).0 (clocks.0 l.0 j p (omega arith))

        back : Parts w P x s → Satisfies P x (step_demands w s)
        back h =
            (every_cons (Holds P x) _ _).1 (
              record { holds = omega (arith, h.later) },
              (every_append (Holds P x) (each (w - 1) (clock_demands w s)) _).1
                  (clocks.1 clock, (guards_satisfies P x s.guards w (λ j. j)).0 (λ g i. rw (← end_map x g.second w (λ j. j)) (h.guarded g i))),
            )
          where
            clock : (j : ℕ) → 0 < j → j ≤ w - 1 → Satisfies P x (clock_demands w s j)
            clock j p b =
                (clock_is j).1 (
                  h.old j p (omega arith),
                  reset_in w j (resets s j) (h.reset j p (omega arith)) (h.kept j p (omega arith)),
                )

-- ---- They are short

-- Between two of the first N vertices, and of at most 4000 ticks either way.
pub record Short (N : ℕ) (d : Demand) : Type 0 where
  pub from : d.from < N
  pub to : d.to < N
  pub up : d.up ≤ 4000
  pub down : d.down ≤ 4000

-- The clocks of a step are among 1 to w - 1: its guards are on these, and it resets no other.
pub record Uses (w : ℕ) (s : Step) : Type 0 where
  pub guards : (g : Guard) → Memᴰ g s.guards → (g.clock < w) × (g.second < w)
  pub resets : (j : ℕ) → w ≤ j → j < 7 → resets s j ≡ false

module _ (w : ℕ) where
  one : {d : Demand} → Short (w + w) d → Every (Short (w + w)) (d ∷ [])
  one h = (every_cons (Short (w + w)) _ _).1 (h, every_nil (Short (w + w)))

  two : {c d : Demand} → Short (w + w) c → Short (w + w) d → Every (Short (w + w)) (c ∷ d ∷ [])
  two h k = (every_cons (Short (w + w)) _ _).1 (h, one k)

  reset_short : (b : Bool) (j : ℕ) → j < w → Every (Short (w + w)) (reset_demands w b j)
  reset_short true j l = two (omega arith) (omega arith)
  reset_short false j l = two (omega arith) (omega arith)

  guard_short : (r : Relation) (j e u d : ℕ) → j < w → e < w + w → u ≤ 4000 → d ≤ 4000 → Every (Short (w + w)) (guard_demands r u d j e)
  guard_short Under j e u d l m h k = one (omega arith)
  guard_short AtMost j e u d l m h k = one (omega arith)
  guard_short Exactly j e u d l m h k = two (omega arith) (omega arith)
  guard_short AtLeast j e u d l m h k = one (omega arith)
  guard_short Over j e u d l m h k = one (omega arith)

  -- clocks of w, and a small constant
  abbrev Small : Guard → Type 0
  Small g = (g.clock < w) × (g.second < w) × (g.constant ≤ 4000)

  end_short : (j : ℕ) → 0 < w → j < w → end_of j w (λ j. j) < w + w
  unfolding end_of
  end_short zero p l = omega arith
  end_short (suc j) p l = omega arith

  guards_short : 0 < w → (gs : List Guard) → Every Small gs → Every (Short (w + w)) (guards_demands gs w (λ j. j))
  unfolding guards_demands
  guards_short p [] h = every_nil (Short (w + w))
  guards_short p (g ∷ gs) h =
      let k = (every_cons Small g gs).0 h in
      (every_append (Short (w + w)) (demands_at g w (λ j. j)) _).1 (
        guard_short g.relation g.clock (end_of g.second w (λ j. j)) (up_of g) (down_of g) k.0.0 (end_short g.second p k.0.1)
            (omega (arith, k.0.2, up_most g)) (omega (arith, k.0.2, down_most g)),
        guards_short p gs k.1,
      )

  pub step_short : 0 < w → (s : Step) → Fair s → ((g : Guard) → Memᴰ g s.guards → (g.clock < w) × (g.second < w))
      → Every (Short (w + w)) (step_demands w s)
  unfolding step_demands
  step_short p s f u =
      (every_cons (Short (w + w)) _ _).1 (
        omega arith,
        (every_append (Short (w + w)) (each (w - 1) (clock_demands w s)) _).1
            ((every_each (Short (w + w)) (clock_demands w s) (w - 1)).1 clocks, guards_short p s.guards tests),
      )
    where
      clocks : (j : ℕ) → 0 < j → j ≤ w - 1 → Every (Short (w + w)) (clock_demands w s j)
      clocks j q l = (every_cons (Short (w + w)) _ _).1 (omega arith, reset_short (resets s j) j (omega arith))

      tests : Every Small s.guards
      tests g i = ((u g i).0, (u g i).1, (f.guards g i).small)

-- ---- With all seven vertices of a configuration they say that the step is a move

moves_is : (P : ℕ) (x : ℕ → ℕ) (s : Step) → Parts 7 P x s ↔ Moves s P x
moves_is P x s = (there, back)
  where
    there : Parts 7 P x s → Moves s P x
    there h = record { later = h.later; old = old; guarded = h.guarded; reset = h.reset; kept = h.kept }
      where
        old : (j : ℕ) → j < 7 → x j ≤ x 0
        old zero l = omega arith
        old (suc j) l = h.old (suc j) (omega arith) l

    back : Moves s P x → Parts 7 P x s
    back m = record {
      later = m.later;
      old = λ j p l. m.old j l;
      guarded = m.guarded;
      reset = m.reset;
      kept = m.kept;
    }

-- The matrix of these constraints has the solutions of the step.
pub raw_is : (s : Step) → Fair s → (P : ℕ) (x : ℕ → ℕ) → 0 < P → Solves 14 P (matrix_of (step_demands 7 s)) x ↔ Moves s P x
raw_is s f P x p = iff_trans (matrix_is 14 P x p (step_demands 7 s) inside) (iff_trans (step_is P x 7 s) (moves_is P x s))
  where
    inside : Every (λ d. (d.from < 14) × (d.to < 14)) (step_demands 7 s)
    inside d i = let h = step_short 7 (omega arith) s f (λ g m. ((f.guards g m).last, (f.guards g m).second)) d i in (h.from, h.to)
