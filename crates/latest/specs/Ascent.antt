-- The checks forth with the guards from above as the demands that each step has of its own.
use Rattle.std.specs.Prelude.{◌≡◌, Bool, true, ℕ, ◌+◌, ◌%◌, ◌≤◌, ◌<◌}
use Rattle.std.proofs.Common.{sym, ap, subst, ◌∙◌, arith}
use mathlib.Core.List.{List, Memᴰ}
use Rattle.runs.specs.declared.Demand.{Demand}
use Rattle.sweeps.specs.Order.{side_of, upper_at}
use Rattle.paths.specs.Constraint.{Constraint}
use Rattle.checks.specs.InParts.{edges}
use Rattle.lowering.specs.Lowered.{bounds, lowers_of}
use Rattle.lowering.specs.Bounded.{Bounded, bounded_some}
use Rattle.bounding.specs.Turns.{after_of, Able}
use Rattle.latest.specs.Steps.{forth_edges, back_edges, step_edges, back_member, back_settled, right_member}
use Rattle.latest.specs.Descent.{Descended}
use Rattle.latest.specs.Ascending.{Stepped, Ascending, Ascended}
use Rattle.latest.specs.Ascending as ascending

module _ (low up far : List ℕ) (L n K : ℕ) where
  abbrev own : ℕ → List Demand
  own i = upper_at up far L n K i

  abbrev back : List Constraint
  back = back_edges up far L n K

  member : (i : ℕ) → i < K → (c : Constraint) → Memᴰ c (edges (own i)) → Memᴰ c (step_edges low up far L n K)
  member i l c m = right_member (forth_edges low far L n K) back c (back_member up far L n K i l c m)

  -- the checks of step i
  module _ (i s : ℕ) (inside : i < K) (e : s ≡ i % L) (h : Bool) (l : List ℕ) (b : Bounded (K + n + 1) (step_edges low up far L n K) l) where
    pub upper_able : Able (side_of true up far K s i 1 n) l
    upper_able =
        subst (λ q. Able (side_of true up far K q i 1 n) l) (sym e)
        (record {
          moments = K + n + 1;
          bounded = bounded_some (K + n + 1) (step_edges low up far L n K) (edges (own i)) l (member i inside) b;
        })

    module _ (l₁ : List ℕ) (m₀ m : ℕ) (few : K + n + 1 ≤ m₀)
        (c : bounds l₁ m ≡ after_of (side_of true up far K s i 1 n) (bounds l m₀)) where
      after : bounds l₁ m ≡ lowers_of (edges (own i)) (bounds l m₀)
      after = c ∙ ap (λ q. after_of (side_of true up far K q i 1 n) (bounds l m₀)) e

      pub stepped_quiet : m₀ ≤ m → Stepped low far L n K own back i h l l₁ h (i + 1)
      stepped_quiet = ascending.stepped_quiet low far L n K own back i h l b (member i inside) l₁ m₀ m few after

      pub stepped_hit : m < m₀ → Stepped low far L n K own back i h l l₁ true (i + 1)
      stepped_hit = ascending.stepped_hit low far L n K own back i h l b (member i inside) l₁ m₀ m few after

      pub back_able : Bounded (K + n + 1) (forth_edges low far L n K) l₁
      back_able = ascending.back_able low far L n K own back i h l b (member i inside) l₁ m₀ m few after

      pub stepped_mended : m < m₀ → (from : ℕ) (l₂ : List ℕ) (lowest : ℕ) → Descended low far L n K from (i + 1) l₁ l₂ lowest
          → Stepped low far L n K own back i h l l₂ true lowest
      stepped_mended w from l₂ lowest d =
          ascending.stepped_mended low far L n K own back i h l b (member i inside) l₁ m₀ m few after w from (i + 1) (omega arith) l₂ lowest d

  pub ascending_last : (l₀ l : List ℕ) (i s : ℕ) (h : Bool) → Ascending low far L n K own back l₀ l i s h → K ≤ i
      → Ascended low far L n K back l₀ l h
  ascending_last l₀ l i s h u = ascending.ascending_last low far L n K own back l₀ l i s h u (back_settled up far L n K l)
