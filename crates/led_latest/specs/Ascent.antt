-- The checks forth with the guards from above and those between two clocks as the demands that each step has of its own.
use Rattle.std.specs.Prelude.{◌≡◌, refl, Bool, true, ℕ, ◌+◌, ◌%◌, ◌≤◌, ◌<◌}
use Rattle.std.proofs.Common.{sym}
use mathlib.Core.List.{List, [], ◌++◌, Memᴰ, append-nil}
use Rattle.table.specs.declared.Table.{Table}
use Rattle.runs.specs.declared.Demand.{Demand}
use Rattle.sweeps.specs.Order.{side_of, leads_at, back_at}
use Rattle.paths.specs.Constraint.{Constraint}
use Rattle.checks.specs.InParts.{edges}
use Rattle.lowering.specs.Lowered.{bounds, lowers_of}
use Rattle.lowering.specs.Bounded.{Bounded, bounded_some}
use Rattle.bounding.specs.Turns.{after_of, Able, Turn, turn_first, turn_able, turn_more, turn_last}
use Rattle.latest.specs.Steps.{forth_edges, right_member}
use Rattle.latest.specs.Descent.{Descended}
use Rattle.latest.specs.Ascending.{Stepped, Ascending, Ascended}
use Rattle.latest.specs.Ascending as ascending
use Rattle.led_latest.specs.Steps.{led_back_edges, led_edges, led_back_member, led_back_settled}

module _ (low up : List ℕ) (T : Table) (far : List ℕ) (L n K : ℕ) where
  abbrev own : ℕ → List Demand
  own i = back_at up T far L n K i

  abbrev back : List Constraint
  back = led_back_edges up T far L n K

  member : (i : ℕ) → i < K → (c : Constraint) → Memᴰ c (edges (own i)) → Memᴰ c (led_edges low up T far L n K)
  member i l c m = right_member (forth_edges low far L n K) back c (led_back_member up T far L n K i l c m)

  -- the checks of step i
  module _ (i s : ℕ) (inside : i < K) (e : s ≡ i % L) (h : Bool) (l : List ℕ) (b : Bounded (K + n + 1) (led_edges low up T far L n K) l) where
    abbrev side : List Demand
    side = side_of true up far K s i 1 n

    abbrev led : List Demand
    led = leads_at T far K s i

    same : own i ≡ side ++ led
    same = rw e refl

    able : Able (own i) l
    able =
        record {
          moments = K + n + 1;
          bounded = bounded_some (K + n + 1) (led_edges low up T far L n K) (edges (own i)) l (member i inside) b;
        }

    pub upper_able : Able (side_of true up far K s i 1 n) l
    upper_able = turn_able (own i) (bounds l 0) (own i) side led same (bounds l 0) (turn_first (own i) (bounds l 0) able)

    module _ (l₀ : List ℕ) (m₀ m₁ : ℕ) (few : K + n + 1 ≤ m₀)
        (c₀ : bounds l₀ m₁ ≡ after_of (side_of true up far K s i 1 n) (bounds l m₀)) where
      sided : Turn (own i) (bounds l m₀) led (bounds l₀ m₁)
      sided =
          turn_more (own i) (bounds l m₀) (own i) side led same (bounds l m₀) (turn_first (own i) (bounds l m₀) able) (bounds l₀ m₁) c₀

      pub leads_able : Able (leads_at T far K s i) l₀
      leads_able = sided.able

      module _ (l₁ : List ℕ) (m : ℕ) (c : bounds l₁ m ≡ after_of (leads_at T far K s i) (bounds l₀ m₁)) where
        after : bounds l₁ m ≡ lowers_of (edges (own i)) (bounds l m₀)
        after =
            turn_last (own i) (bounds l m₀) (bounds l₁ m)
            (turn_more (own i) (bounds l m₀) led led [] (sym (append-nil led)) (bounds l₀ m₁) sided (bounds l₁ m) c)

        pub stepped_quiet : m₀ ≤ m → Stepped low far L n K own back i h l l₁ h (i + 1)
        stepped_quiet = ascending.stepped_quiet low far L n K own back i h l b (member i inside) l₁ m₀ m few after

        pub stepped_hit : m < m₀ → Stepped low far L n K own back i h l l₁ true (i + 1)
        stepped_hit = ascending.stepped_hit low far L n K own back i h l b (member i inside) l₁ m₀ m few after

        pub back_able : Bounded (K + n + 1) (forth_edges low far L n K) l₁
        back_able = ascending.back_able low far L n K own back i h l b (member i inside) l₁ m₀ m few after

        pub stepped_mended : m < m₀ → (from floor : ℕ) → floor ≤ i + 1 → (l₂ : List ℕ) (lowest : ℕ)
            → Descended low far L n K from floor l₁ l₂ lowest → Stepped low far L n K own back i h l l₂ true lowest
        stepped_mended = ascending.stepped_mended low far L n K own back i h l b (member i inside) l₁ m₀ m few after

  pub ascending_last : (l₀ l : List ℕ) (i s : ℕ) (h : Bool) → Ascending low far L n K own back l₀ l i s h → K ≤ i
      → Ascended low far L n K back l₀ l h
  ascending_last l₀ l i s h u = ascending.ascending_last low far L n K own back l₀ l i s h u (led_back_settled up T far L n K l)
