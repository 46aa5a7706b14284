-- The steps of a run, and times that satisfy the demands of these steps.
use Rattle.std.specs.Prelude.{◌≡◌, refl, ◌↔◌, false, ℕ, zero, suc, ◌+◌, ◌*◌, ◌≤◌, ◌<◌, length}
use mathlib.Core.List.Memᴰ
use mathlib.Core.List.{List, [], ◌∷◌, ◌++◌}
use Rattle.std.proofs.Common.{arith}
use Rattle.table.specs.Step.{Step}
use Rattle.table.specs.declared.Guard.{Guard}
use Rattle.runs.specs.Run.{zeroed, Passes, Goes, done, next}
use Rattle.runs.specs.declared.Demand.{Demand}
use Rattle.runs.specs.Demand.{Holds, plus, guards_demands, steps_demands, OnClocks, Clocks}
use Rattle.runs.specs.Readings.{ResetAt, ReadAt, met_reading, zeroed_cases}
use Rattle.runs.specs.Steps.{end_map}
use Rattle.runs.specs.Satisfies.{Satisfies, MetAt, guards_satisfies}
use Rattle.runs.specs.Tools.{Every, every_nil, every_cons, every_append}

-- y j is the moment of clock j's last reset in a run, z j in its demands, till moment i
pub record Placed (n : ℕ) (t s x y z : ℕ → ℕ) (i : ℕ) : Type 0 where
  pub reset : (j : ℕ) → 0 < j → j ≤ n → ResetAt (x 0) t (s j) (y j) (x (z j))
  pub old : (j : ℕ) → 0 < j → j ≤ n → x (z j) ≤ x i

-- the demands of a step and of the steps after it
pub step_satisfies : (P : ℕ) (x : ℕ → ℕ) (c : Step) (σ : List Step) (i : ℕ) (z : ℕ → ℕ)
    → Satisfies P x (steps_demands (c ∷ σ) i z)
    ↔ ((x i ≤ x (suc i)) × Every (MetAt P x (suc i) z) c.guards
    × Satisfies P x (steps_demands σ (suc i) (zeroed c (suc i) z)))
unfolding steps_demands
step_satisfies P x c σ i z = (
  (λ h. (omega (arith, (first.0 h).0), guards.1 (rest.0 (first.0 h).1).0, (rest.0 (first.0 h).1).1)),
  λ h. first.1 (omega arith, rest.1 (guards.0 h.1, h.2)),
)
  where
    later : List Demand
    later = steps_demands σ (suc i) (zeroed c (suc i) z)

    now : List Demand
    now = guards_demands c.guards (suc i) z

    first : Satisfies P x (plus (suc i) i 0 false ∷ (now ++ later))
        ↔ (Holds P x (plus (suc i) i 0 false) × Satisfies P x (now ++ later))
    first = every_cons (Holds P x) (plus (suc i) i 0 false) (now ++ later)

    rest : Satisfies P x (now ++ later) ↔ (Satisfies P x now × Satisfies P x later)
    rest = every_append (Holds P x) now later

    guards : Every (MetAt P x (suc i) z) c.guards ↔ Satisfies P x now
    guards = guards_satisfies P x c.guards (suc i) z

-- the times of the moments never decrease
pub rising : (P : ℕ) (x : ℕ → ℕ) (σ : List Step) (i : ℕ) (z : ℕ → ℕ) → Satisfies P x (steps_demands σ i z)
    → (m : ℕ) → m ≤ length σ → x i ≤ x (i + m)
rising P x σ i z h zero l = let e : i + 0 ≡ i = omega arith in rw e (omega arith)
rising P x [] i z h (suc m) l = absurd (omega arith)
rising P x (c ∷ σ) i z h (suc m) l =
    let e : i + suc m ≡ suc i + m = omega arith in
    let k = (step_satisfies P x c σ i z).0 h in
    rw e (omega (arith, k.0, rising P x σ (suc i) (zeroed c (suc i) z) k.2 m (omega arith)))

module _ (P n : ℕ) (t s x : ℕ → ℕ) where
  -- ---- one step
  module _ (i : ℕ) (y z : ℕ → ℕ) (k : Placed n t s x y z i)
      (now : x (suc i) ≡ x 0 + t (suc i)) (later : x i ≤ x (suc i)) where
    placed_after : (c : Step) → Placed n t s x (zeroed c (suc i) y) (zeroed c (suc i) z) (suc i)
    placed_after c =
        record {
          reset =
              λ j p l.
              zeroed_cases (λ r m. ResetAt (x 0) t (s j) r (x m)) c (suc i) y z j (λ e. now) (λ e. k.reset j p l);
          old =
              λ j p l.
              zeroed_cases (λ r m. x m ≤ x (suc i)) c (suc i) y z j (λ e. omega arith) (λ e. omega (arith, k.old j p l));
        }

    -- a guard holds of the reading if and only if it is met by the times
    guard : (g : Guard) → OnClocks n g → MetAt P x (suc i) z g ↔ Passes P t s y (suc i) g
    guard g h =
        rw (← end_map x g.second (suc i) z)
        (met_reading n (x 0) t s y (λ j. x (z j)) (x (suc i)) (suc i)
        (record { now = now; old = λ j p l. omega (arith, k.old j p l); reset = k.reset })
        P g h)

  -- ---- all steps, K in number
  module _ (K : ℕ) (now : (i : ℕ) → i ≤ K → x i ≡ x 0 + t i) where
    -- the times of a run satisfy the demands of its steps
    pub goes_satisfies : (σ : List Step) (i : ℕ) (y z : ℕ → ℕ) → Clocks n σ → i + length σ ≤ K → Placed n t s x y z i
        → Goes P t s σ i y → Satisfies P x (steps_demands σ i z)
    unfolding steps_demands
    goes_satisfies [] i y z f b k done = every_nil (Holds P x)
    goes_satisfies (c ∷ σ) i y z f b k (next l g r) =
        let tail = goes_satisfies σ (suc i) (zeroed c (suc i) y) (zeroed c (suc i) z) (λ d m. f d (Memᴰ.tail m)) in
        (step_satisfies P x c σ i z).1 (
          later,
          (λ q m. (guard i y z k here later q (f c (Memᴰ.head refl) q m)).1 (g q m)),
          tail (omega arith) (placed_after i y z k here later c) r,
        )
      where
        here : x (suc i) ≡ x 0 + t (suc i)
        here = now (suc i) (omega arith)

        later : x i ≤ x (suc i)
        later = omega (arith, now i (omega arith), here)

    -- times that satisfy the demands of the steps are those of a run
    pub satisfies_goes : (σ : List Step) (i : ℕ) (y z : ℕ → ℕ) → Clocks n σ → i + length σ ≤ K → Placed n t s x y z i
        → Satisfies P x (steps_demands σ i z) → Goes P t s σ i y
    satisfies_goes [] i y z f b k h = done
    satisfies_goes (c ∷ σ) i y z f b k h =
        let tail = satisfies_goes σ (suc i) (zeroed c (suc i) y) (zeroed c (suc i) z) (λ d m. f d (Memᴰ.tail m)) in
        next
        earlier
        (λ q m. (guard i y z k here parts.0 q (f c (Memᴰ.head refl) q m)).0 (parts.1 q m))
        (tail (omega arith) (placed_after i y z k here parts.0 c) parts.2)
      where
        parts : (x i ≤ x (suc i)) × Every (MetAt P x (suc i) z) c.guards
            × Satisfies P x (steps_demands σ (suc i) (zeroed c (suc i) z))
        parts = (step_satisfies P x c σ i z).0 h

        here : x (suc i) ≡ x 0 + t (suc i)
        here = now (suc i) (omega arith)

        earlier : t i ≤ t (suc i)
        earlier = omega (arith, now i (omega arith), here, parts.0)
