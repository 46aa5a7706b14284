-- Where every guard is of one clock, a demand joins two different moments, so a loop has at least two.
use Rattle.std.specs.Prelude.{◌≡◌, refl, ◌⊎◌, ◌≢◌, true, false, length, get_or}
use Rattle.std.proofs.Common.{sym, ◌∙◌}
use Rattle.std.proofs.Math.Logic.{inl, inr}
use mathlib.Core.List.{List, [], ◌∷◌, map, Memᴰ}
use Prim.Native.Nat.{ℕ, zero, suc, ◌+◌, ◌≤◌, ◌<◌}
use native.Mathlib.Omega.{arith}
use Rattle.table.specs.Step.{Step, up_of, down_of, end_of, end_none, Plain}
use Rattle.table.specs.declared.Guard.{Guard}
use Rattle.table.specs.declared.Relation.{Relation}
use Rattle.table.specs.declared.Relation.TheVariants.{Under, AtMost, Exactly, AtLeast, Over}
use Rattle.runs.specs.Run.{copies, zeroed}
use Rattle.runs.specs.declared.Demand.{Demand}
use Rattle.runs.specs.Demand.{bounded, plus, guard_demands, demands_at, guards_demands, steps_demands, OnClocks}
use Rattle.runs.specs.Demand.{Starts, moment, moved, start_demands, demands, Clocks}
use Rattle.runs.specs.Loop.{Tightest, Along, last, then, Loop}
use Rattle.runs.specs.Copies.{copies_member}
use Rattle.runs.specs.Readings.{zeroed_cases}
use Rattle.runs.specs.Start.{Upper}
use Rattle.runs.specs.Tools.{Every, every_nil, every_cons, every_append, every_map}

-- a demand between two different moments, or places
pub record Apart (d : Demand) : Type 0 where
  pub apart : d.from ≢ d.to

-- the guards of σ are of one clock each
abbrev pub Plains : List Step → Type 0
Plains σ = (step : Step) → Memᴰ step σ → (g : Guard) → Memᴰ g step.guards → Plain g

pub plains_copies : (σ : List Step) (k : ℕ) → Plains σ → Plains (copies σ k)
plains_copies σ k f s m = f s (copies_member σ k m)

guard_apart : (r : Relation) (u d z e : ℕ) → z ≢ e → Every Apart (guard_demands r u d z e)
guard_apart r u d z e h = go r
  where
    one : (d : Demand) → Apart d → Every Apart (d ∷ [])
    one d k = (every_cons Apart d []).1 (k, every_nil Apart)

    back : e ≢ z
    back q = h (sym q)

    go : (r : Relation) → Every Apart (guard_demands r u d z e)
    go Under = one (bounded z e u d true) (record { apart = h })
    go AtMost = one (bounded z e u d false) (record { apart = h })
    go Exactly =
        (every_cons Apart (bounded z e u d false) (bounded e z d u false ∷ [])).1
        (record { apart = h }, one (bounded e z d u false) (record { apart = back }))
    go AtLeast = one (bounded e z d u false) (record { apart = back })
    go Over = one (bounded e z d u true) (record { apart = back })

module _ (K n : ℕ) where
  -- each clock was last reset at moment i or earlier, or before the start
  abbrev Resets : ℕ → (ℕ → ℕ) → Type 0
  Resets i z = (j : ℕ) → 0 < j → (z j ≤ i) ⊎ (K < z j)

  guards_apart : (gs : List Guard) (i : ℕ) (z : ℕ → ℕ) → i < K → Resets i z → Every (OnClocks n) gs → Every Plain gs
      → Every Apart (guards_demands gs (suc i) z)
  unfolding guards_demands
  guards_apart [] i z b h c f = every_nil Apart
  guards_apart (g ∷ gs) i z b h c f =
      (every_append Apart (demands_at g (suc i) z) _).1 (
        guard_apart g.relation (up_of g) (down_of g) (z g.clock) (end_of g.second (suc i) z)
            (apart (h g.clock (c g (Memᴰ.head refl)).0)),
        guards_apart gs i z b h (λ q m. c q (Memᴰ.tail m)) (λ q m. f q (Memᴰ.tail m)),
      )
    where
      end : end_of g.second (suc i) z ≡ suc i
      end = end_none g.second (suc i) z (f g (Memᴰ.head refl)).second

      apart : (z g.clock ≤ i) ⊎ (K < z g.clock) → z g.clock ≢ end_of g.second (suc i) z
      apart (inl l) e = omega (arith, end)
      apart (inr l) e = omega (arith, end)

  steps_apart : (σ : List Step) (i : ℕ) (z : ℕ → ℕ) → i + length σ ≤ K → Resets i z → Clocks n σ → Plains σ
      → Every Apart (steps_demands σ i z)
  unfolding steps_demands
  steps_apart [] i z b h c f = every_nil Apart
  steps_apart (step ∷ σ) i z b h c f =
      (every_cons Apart (plus (suc i) i 0 false) _).1 (
        record { apart = omega arith },
        (every_append Apart (guards_demands step.guards (suc i) z) _).1 (
          guards_apart step.guards i z (omega arith) h (c step (Memᴰ.head refl)) (f step (Memᴰ.head refl)),
          steps_apart σ (suc i) (zeroed step (suc i) z) (omega arith) later
              (λ s m. c s (Memᴰ.tail m)) (λ s m. f s (Memᴰ.tail m)),
        ),
      )
    where
      later : Resets (suc i) (zeroed step (suc i) z)
      later j p =
          zeroed_cases (λ a b. (a ≤ suc i) ⊎ (K < a)) step (suc i) z z j (λ e. inl (omega arith)) (λ e. more (h j p))
        where
          more : (z j ≤ i) ⊎ (K < z j) → (z j ≤ suc i) ⊎ (K < z j)
          more (inl q) = inl (omega arith)
          more (inr q) = inr q

  moved_apart : (d : Demand) → Apart d → Apart (moved K d)
  moved_apart d p = record { apart = λ e. p.apart (same d.from d.to e) }
    where
      same : (a b : ℕ) → moment K a ≡ moment K b → a ≡ b
      same zero zero e = refl
      same zero (suc b) e = omega arith
      same (suc a) zero e = omega arith
      same (suc a) (suc b) e = omega arith

  start_apart : (D : Starts) (j m : ℕ) → 0 < j → j + m ≤ suc n → ((a : ℕ) → 0 < a → a ≤ n → Every Apart (D a))
      → Every Apart (start_demands K D j m)
  unfolding start_demands
  start_apart D j zero p b h = every_nil Apart
  start_apart D j (suc m) p b h =
      (every_cons Apart (plus 0 (K + j) 0 false) _).1 (
        record { apart = omega arith },
        (every_append Apart (map (moved K) (D j)) _).1 (
          (every_map Apart (moved K) (D j)).1 (λ d k. moved_apart d (h j p (omega arith) d k)),
          start_apart D (suc j) m (omega arith) (omega arith) h,
        ),
      )

-- Every demand of steps whose guards are of one clock is between two different moments.
pub demands_apart : (n : ℕ) (σ : List Step) (D : Starts) → Clocks n σ → Plains σ
    → ((j : ℕ) → 0 < j → j ≤ n → Every Apart (D j)) → Every Apart (demands n σ D)
unfolding demands
demands_apart n σ D c f h =
    (every_append Apart (steps_demands σ 0 (λ j. length σ + j)) (start_demands (length σ) D 1 n)).1 (
      steps_apart (length σ) n σ 0 (λ j. length σ + j) (omega arith) (λ j p. inr (omega arith)) c f,
      start_apart (length σ) n D 1 n (omega arith) (omega arith) h,
    )

-- demands that bound the readings from above are so
pub upper_apart : (n : ℕ) (D : Starts) → Upper n D → (j : ℕ) → 0 < j → j ≤ n → Every Apart (D j)
upper_apart n D u j p l d m = record { apart = omega (arith, u.ends j p l d m, u.begins j p l d m) }

-- a row of one moment needs a demand from it to itself
along_two : (ds : List Demand) {ms : List ℕ} {es : List Demand} → Every Apart ds → Along (Tightest ds) ms (get_or ms 0 0) es
    → 2 ≤ length ms
along_two ds f (last {e = e} t) = absurd ((f e t.link.among).apart (t.link.from ∙ sym t.link.to))
along_two ds f (then t r) = omega arith

-- A loop of demands between different moments has at least two, all distinct.
pub loop_two : (n : ℕ) (σ : List Step) (D : Starts) (ms : List ℕ) → Clocks n σ → Plains σ
    → ((j : ℕ) → 0 < j → j ≤ n → Every Apart (D j)) → Loop (demands n σ D) ms → 2 ≤ length ms
loop_two n σ D ms c f h l = along_two (demands n σ D) (demands_apart n σ D c f h) l.around
