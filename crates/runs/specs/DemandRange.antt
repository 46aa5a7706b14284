-- The demands of a table have small bounds.
use Rattle.std.specs.Prelude.{◌≡◌, refl, ◌⊎◌, Bool, true, length}
use Rattle.std.proofs.Common.{inl, inr, ⊎_elim}
use Rattle.std.proofs.Math.Bool.{false}
use mathlib.Core.List.Memᴰ
use mathlib.Core.List.{List, [], ◌∷◌, map}
use Prim.Native.Nat.{ℕ, zero, suc, ◌+◌, ◌≤◌, ◌<◌}
use native.Mathlib.Omega.{arith}
use Rattle.table.specs.Step.{Step, up_of, down_of, up_most, down_most, up_or_down, end_of, FairGuard, Fairs}
use Rattle.table.specs.declared.Guard.{Guard}
use Rattle.table.specs.declared.Relation.{Relation}
use Rattle.table.specs.declared.Relation.TheVariants.{Under, AtMost, Exactly, AtLeast, Over}
use Rattle.runs.specs.Run.{zeroed}
use Rattle.runs.specs.declared.Demand.{Demand}
use Rattle.runs.specs.Demand.{bounded, plus, guard_demands, demands_at, guards_demands, steps_demands, OnClocks}
use Rattle.runs.specs.Demand.{Starts, any_starts, moment, moved, start_demands, demands, Clocks}
use Rattle.runs.specs.Readings.{zeroed_cases}
use Rattle.runs.specs.Steps.{fairs_head, fairs_tail}
use Rattle.runs.specs.Tools.{Every, every_nil, every_cons, every_append, every_map}

-- a demand between two of the moments 0 to N, or of one with itself, with a bound from −4000 to 4000 ticks
pub record Proper (N : ℕ) (d : Demand) : Type 0 where
  pub from : d.from ≤ N
  pub to : d.to ≤ N
  pub up : d.up ≤ 4000
  pub down : d.down ≤ 4000
  pub signed : (d.up ≡ 0) ⊎ (d.down ≡ 0)

pub plus_proper : (N a b c : ℕ) (s : Bool) → a ≤ N → b ≤ N → c ≤ 4000 → Proper N (plus a b c s)
plus_proper N a b c s p q l = record { from = p; to = q; up = l; down = omega arith; signed = inr refl }

guard_proper : (r : Relation) (N u d z e : ℕ) → u ≤ 4000 → d ≤ 4000 → (u ≡ 0) ⊎ (d ≡ 0) → z ≤ N → e ≤ N
    → Every (Proper N) (guard_demands r u d z e)
guard_proper r N u d z e l m o p q = go r
  where
    turned : (d ≡ 0) ⊎ (u ≡ 0)
    turned = ⊎_elim inr inl o

    upper : (s : Bool) → Proper N (bounded z e u d s)
    upper s = record { from = p; to = q; up = l; down = m; signed = o }

    lower : (s : Bool) → Proper N (bounded e z d u s)
    lower s = record { from = q; to = p; up = m; down = l; signed = turned }

    one : (d : Demand) → Proper N d → Every (Proper N) (d ∷ [])
    one d k = (every_cons (Proper N) d []).1 (k, every_nil (Proper N))

    go : (r : Relation) → Every (Proper N) (guard_demands r u d z e)
    go Under = one (bounded z e u d true) (upper true)
    go AtMost = one (bounded z e u d false) (upper false)
    go Exactly =
        (every_cons (Proper N) (bounded z e u d false) (bounded e z d u false ∷ [])).1
        (upper false, one (bounded e z d u false) (lower false))
    go AtLeast = one (bounded e z d u false) (lower false)
    go Over = one (bounded e z d u true) (lower true)

module _ (K n : ℕ) where
  -- each clock was last reset at one of the moments
  abbrev Resets : (ℕ → ℕ) → Type 0
  Resets z = (j : ℕ) → 0 < j → j ≤ n → z j ≤ K + n

  end_proper : (j i : ℕ) (z : ℕ → ℕ) → j ≤ n → i ≤ K → Resets z → end_of j i z ≤ K + n
  unfolding end_of
  end_proper zero i z l b h = omega arith
  end_proper (suc j) i z l b h = h (suc j) (omega arith) l

  guards_proper : (gs : List Guard) (i : ℕ) (z : ℕ → ℕ) → i ≤ K → Resets z → Every FairGuard gs
      → Every (OnClocks n) gs → Every (Proper (K + n)) (guards_demands gs i z)
  unfolding guards_demands
  guards_proper [] i z b h f c = every_nil (Proper (K + n))
  guards_proper (g ∷ gs) i z b h f c =
      (every_append (Proper (K + n)) (demands_at g i z) _).1 (
        guard_proper g.relation (K + n) (up_of g) (down_of g) (z g.clock) (end_of g.second i z)
            (omega (arith, up_most g, small)) (omega (arith, down_most g, small)) (up_or_down g)
            (h g.clock on.0 on.1) (end_proper g.second i z on.2 b h),
        guards_proper gs i z b h (λ q m. f q (Memᴰ.tail m)) (λ q m. c q (Memᴰ.tail m)),
      )
    where
      on : OnClocks n g
      on = c g (Memᴰ.head refl)

      small : g.constant ≤ 4000
      small = (f g (Memᴰ.head refl)).small

  steps_proper : (σ : List Step) (i : ℕ) (z : ℕ → ℕ) → i + length σ ≤ K → Resets z → Fairs σ → Clocks n σ
      → Every (Proper (K + n)) (steps_demands σ i z)
  unfolding steps_demands
  steps_proper [] i z b h f c = every_nil (Proper (K + n))
  steps_proper (step ∷ σ) i z b h f c =
      (every_cons (Proper (K + n)) (plus (suc i) i 0 false) _).1 (
        plus_proper (K + n) (suc i) i 0 false (omega arith) (omega arith) (omega arith),
        (every_append (Proper (K + n)) (guards_demands step.guards (suc i) z) _).1 (
          guards_proper step.guards (suc i) z (omega arith) h (fairs_head f).guards (c step (Memᴰ.head refl)),
          steps_proper σ (suc i) (zeroed step (suc i) z) (omega arith) later (fairs_tail f)
              (λ s m. c s (Memᴰ.tail m)),
        ),
      )
    where
      later : Resets (zeroed step (suc i) z)
      later j p l = zeroed_cases (λ a b. a ≤ K + n) step (suc i) z z j (λ e. omega arith) (λ e. h j p l)

  moved_proper : (d : Demand) → Proper n d → Proper (K + n) (moved K d)
  moved_proper d p =
      record {
        from = place d.from p.from;
        to = place d.to p.to;
        up = p.up;
        down = p.down;
        signed = p.signed;
      }
    where
      place : (a : ℕ) → a ≤ n → moment K a ≤ K + n
      place zero l = omega arith
      place (suc a) l = omega arith

  start_proper : (D : Starts) (j m : ℕ) → 0 < j → j + m ≤ suc n
      → ((a : ℕ) → 0 < a → a ≤ n → Every (Proper n) (D a))
      → Every (Proper (K + n)) (start_demands K D j m)
  unfolding start_demands
  start_proper D j zero p b h = every_nil (Proper (K + n))
  start_proper D j (suc m) p b h =
      (every_cons (Proper (K + n)) (plus 0 (K + j) 0 false) _).1 (
        plus_proper (K + n) 0 (K + j) 0 false (omega arith) (omega arith) (omega arith),
        (every_append (Proper (K + n)) (map (moved K) (D j)) _).1 (
          (every_map (Proper (K + n)) (moved K) (D j)).1 (λ d k. moved_proper d (h j p (omega arith) d k)),
          start_proper D (suc j) m (omega arith) (omega arith) h,
        ),
      )

-- The demands of the K steps σ are between moments of 0 to K + n, with small bounds.
pub demands_proper : (n : ℕ) (σ : List Step) (D : Starts) → Fairs σ → Clocks n σ
    → ((j : ℕ) → 0 < j → j ≤ n → Every (Proper n) (D j)) → Every (Proper (length σ + n)) (demands n σ D)
unfolding demands
demands_proper n σ D f c h =
    (every_append (Proper (length σ + n)) (steps_demands σ 0 (λ j. length σ + j)) (start_demands (length σ) D 1 n)).1 (
      steps_proper (length σ) n σ 0 (λ j. length σ + j) (omega arith) (λ j p l. omega arith) f c,
      start_proper (length σ) n D 1 n (omega arith) (omega arith) h,
    )

-- starts that are all allowed have no demands
pub any_proper : (n j : ℕ) → Every (Proper n) (any_starts j)
unfolding any_starts
any_proper n j = every_nil (Proper n)
