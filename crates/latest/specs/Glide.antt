-- A glide: back step by step, and forth at once from each moment that is lowered. It makes checks only; nothing is settled by it.
use Rattle.std.specs.Prelude.{◌≡◌, refl, true, false, List, [], ◌∷◌, ℕ, suc, ◌+◌, ◌%◌, ◌≤◌, ◌<◌}
use Rattle.std.proofs.Common.{sym, ap, subst, ◌∙◌, arith}
use Rattle.runs.specs.declared.Demand.{Demand}
use Rattle.runs.specs.Demand.{plus}
use Rattle.sweeps.specs.Order.{side_of, upper_at}
use Rattle.paths.specs.Constraint.{Constraint}
use Rattle.checks.specs.InParts.{edges}
use Rattle.lowering.specs.Lowered.{bounds}
use Rattle.lowering.specs.Bounded.{Bounded, bounded_some}
use Rattle.lowering.specs.Outcome.{Falling, falling_first, falling_then, falling_among, checks_falling}
use Rattle.bounding.specs.Turns.{after_of, Able}
use Rattle.latest.specs.Steps.{forth_edges, back_edges, step_edges, back_member, left_member, right_member}
use Rattle.latest.specs.Descent.{Descending, descending_first, order_able, lower_able, descending_next}

-- ---- forth
module _ (up far : List ℕ) (L n K : ℕ) where
  abbrev N : ℕ
  N = K + n + 1

  abbrev back : List Constraint
  back = back_edges up far L n K

  -- What the checks forth give: `top` is a moment that is not before `last`.
  pub record Risen (last : ℕ) (l l' : List ℕ) (top : ℕ) : Type 0 where
    pub falling : Falling N back l l'
    pub since : last ≤ top
    pub inside : top ≤ K

  -- On the way: step i, which is step s of its round, is the next.
  pub record Rising (last : ℕ) (l₀ l : List ℕ) (i s top : ℕ) : Type 0 where
    pub risen : Risen last l₀ l top
    pub step : s ≡ i % L

  pub rising_first : (from s last : ℕ) (l : List ℕ) → Bounded N back l → s ≡ from % L → last ≤ K → Rising last l l from s last
  rising_first from s last l b e w =
      record { risen = record { falling = falling_first N back l b; since = omega arith; inside = w }; step = e }

  module _ (last : ℕ) (l₀ l : List ℕ) (i s top : ℕ) (u : Rising last l₀ l i s top) (w : i < K) where
    pub rising_able : Able (side_of true up far K s i 1 n) l
    rising_able =
        subst (λ q. Able (side_of true up far K q i 1 n) l) (sym u.step)
        (record {
          moments = N;
          bounded = bounded_some N back (edges (upper_at up far L n K i)) l (back_member up far L n K i w) u.risen.falling.bounded;
        })

    pub rising_next : (l₁ : List ℕ) (m₀ m : ℕ) → bounds l₁ m ≡ after_of (side_of true up far K s i 1 n) (bounds l m₀)
        → (s' top' : ℕ) → s' ≡ (i + 1) % L → top ≤ top' → top' ≤ K → Rising last l₀ l₁ (i + 1) s' top'
    rising_next l₁ m₀ m c s' top' e a b =
        record {
          risen =
              record {
                falling =
                    falling_then N back l₀ l l₁ u.risen.falling
                    (checks_falling N back (bounds l m₀) (bounds l₁ m) u.risen.falling.bounded (edges (upper_at up far L n K i))
                    (back_member up far L n K i w) (c ∙ ap (λ q. after_of (side_of true up far K q i 1 n) (bounds l m₀)) u.step));
                since = omega (arith, u.risen.since);
                inside = b;
              };
          step = e;
        }

-- ---- a step back, and forth from it
module _ (low up far : List ℕ) (L n K : ℕ) where
  abbrev forth : List Constraint
  forth = forth_edges low far L n K

  abbrev cs : List Constraint
  cs = step_edges low up far L n K

  module _ (i s : ℕ) (l : List ℕ) (m₀ : ℕ) (inside : i < K) (e : s ≡ i % L) (b : Bounded (K + n + 1) cs l) (d : Demand)
      (f : d ≡ plus (i + 1) i 0 false) where
    forth_bounded : Bounded (K + n + 1) forth l
    forth_bounded = bounded_some (K + n + 1) cs forth l (left_member forth (back_edges up far L n K)) b

    begun : Descending low far L n K (suc i) m₀ l l (suc i) (suc i % L) m₀
    begun = descending_first low far L n K (suc i) m₀ (suc i % L) l forth_bounded refl

    pub back_order_able : Able (d ∷ []) l
    back_order_able =
        order_able low far L n K (suc i) m₀ l l (suc i) (suc i % L) m₀ begun (omega arith) i refl s e d f

    module _ (l₁ : List ℕ) (m₁ : ℕ) (c : bounds l₁ m₁ ≡ after_of (d ∷ []) (bounds l m₀)) where
      pub back_lower_able : Able (side_of false low far K s i 1 n) l₁
      back_lower_able =
          lower_able low far L n K (suc i) m₀ l l (suc i) (suc i % L) m₀ begun (omega arith) i refl s e d f l₁ m₁ c

      module _ (l₂ : List ℕ) (m₂ : ℕ) (k : bounds l₂ m₂ ≡ after_of (side_of false low far K s i 1 n) (bounds l₁ m₁)) where
        pub back_falling : Falling (K + n + 1) cs l l₂
        back_falling =
            falling_among (K + n + 1) cs forth l l₂ (left_member forth (back_edges up far L n K)) b
            (descending_next low far L n K (suc i) m₀ l l (suc i) (suc i % L) m₀ begun (omega arith) i refl s e d f l₁ m₁ c l₂ m₂ k
            ).falling

        pub forth_able : Bounded (K + n + 1) (back_edges up far L n K) l₂
        forth_able =
            bounded_some (K + n + 1) cs (back_edges up far L n K) l₂ (right_member forth (back_edges up far L n K)) back_falling.bounded

        pub glide_falling : (last : ℕ) (l₃ : List ℕ) (top : ℕ) → Risen up far L n K last l₂ l₃ top → Falling (K + n + 1) cs l l₃
        glide_falling last l₃ top r =
            falling_then (K + n + 1) cs l l₂ l₃ back_falling
            (falling_among (K + n + 1) cs (back_edges up far L n K) l₂ l₃ (right_member forth (back_edges up far L n K))
            back_falling.bounded r.falling)
