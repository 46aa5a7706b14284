-- The checks back, from step to step: the order demand of a step, then its guards from below. Each step settles its own demands, and
-- those before it keep the later ones.
use Rattle.std.specs.Prelude.{◌≡◌, false, ◌≢◌, ℕ, suc, ◌+◌, ◌%◌, ◌≤◌, ◌<◌}
use Rattle.std.proofs.Math.Path.{refl}
use Rattle.std.proofs.Common.{sym, ap, subst, ◌∙◌, inl, inr, arith}
use mathlib.Core.List.Memᴰ
use mathlib.Core.List.{List, [], ◌∷◌, ◌++◌, Memᴰ, append-nil}
use Rattle.std.proofs.Math.Numerals.{add-one}
use Rattle.std.proofs.Math.Decide.{ℕ_discrete}
use Rattle.runs.specs.declared.Demand.{Demand}
use Rattle.runs.specs.Demand.{plus}
use Rattle.sweeps.specs.Order.{side_of, forth_at}
use Rattle.sweeps.specs.Ends.{Earlier, forth_at_ends}
use Rattle.basics.specs.Places.{at}
use Rattle.paths.specs.Constraint.{Constraint}
use Rattle.checks.specs.InParts.{edge, edges}
use Rattle.lowering.specs.Lowered.{Bounds, bounds, lowers_of}
use Rattle.lowering.specs.Bounded.{Bounded, bounded_some}
use Rattle.lowering.specs.Outcome.{Settled, Falling, falling_first, falling_then, checks_lowers, checks_falling}
use Rattle.lowering.specs.Settling.{settled_kept, lowers_other, star_settles}
use Rattle.bounding.specs.Turns.{after_of, Able, Turn, turn_first, turn_able, turn_more, turn_last}
use Rattle.latest.specs.Steps.{forth_edges, forth_member, forth_settled}

module _ (low far : List ℕ) (L n K : ℕ) where
  -- the number of moments
  abbrev N : ℕ
  N = K + n + 1

  abbrev own : ℕ → List Demand
  own i = forth_at low far L n K i

  abbrev cs : List Constraint
  cs = forth_edges low far L n K

  -- What the checks give from step `from` down, when they need not go below the moment `floor`, nor below `lowest` at the end: where they
  -- went over all steps before `from`, the demands of these hold.
  pub record Descended (from floor : ℕ) (l₀ l : List ℕ) (lowest : ℕ) : Type 0 where
    pub falling : Falling N cs l₀ l
    pub bottom : lowest ≤ floor
    pub each : floor ≡ 0 → (m : ℕ) → m < from → Settled (edges (own m)) l

  -- so all do where they went over all steps
  pub descended_settled : (l₀ l : List ℕ) (lowest : ℕ) → Descended K 0 l₀ l lowest → Settled cs l
  descended_settled l₀ l lowest d = forth_settled low far L n K l (d.each refl)

  -- On the way: step i, which is step s of its round, is past.
  pub record Descending (from floor : ℕ) (l₀ l : List ℕ) (i s lowest : ℕ) : Type 0 where
    pub falling : Falling N cs l₀ l
    pub step : s ≡ i % L
    pub inside : i ≤ from
    pub bottom : lowest ≤ floor
    pub past : floor ≡ 0 → (m : ℕ) → i ≤ m → m < from → Settled (edges (own m)) l

  pub descending_first : (from floor s : ℕ) (l : List ℕ) → Bounded N cs l → s ≡ from % L → Descending from floor l l from s floor
  descending_first from floor s l b e =
      record {
        falling = falling_first N cs l b;
        step = e;
        inside = omega arith;
        bottom = omega arith;
        past = λ z m a w. absurd (omega arith);
      }

  -- the ends of what is checked at step i
  ends : (i : ℕ) (c : Constraint) → Memᴰ c (edges (own i)) → (c.from ≡ suc i) × Earlier K i c.to
  ends i c m = go (Memᴰ.of_map edge (own i) m)
    where
      go : (d : Demand) × Memᴰ d (own i) × (edge d ≡ c) → (c.from ≡ suc i) × Earlier K i c.to
      go d = rw (← d.2) (forth_at_ends low far L n K i d.0 d.1)

  apart : (i m to : ℕ) → Earlier K i to → i ≤ m → m < K → to ≢ suc m
  apart i m to (inl h) a w e = omega arith
  apart i m to (inr h) a w e = omega arith

  -- one step
  module _ (from floor : ℕ) (l₀ l : List ℕ) (j s lowest : ℕ) (u : Descending from floor l₀ l j s lowest) (few : from ≤ K) (i : ℕ)
      (g : j ≡ suc i) (r : ℕ) (e : r ≡ i % L) (d : Demand) (f : d ≡ plus (i + 1) i 0 false) where
    inside : i < K
    inside = omega (arith, u.inside)

    start : Bounds
    start = bounds l lowest

    side : List Demand
    side = side_of false low far K r i 1 n

    same : own i ≡ (d ∷ []) ++ side
    unfolding side
    same = rw (e, f, add-one i) refl

    begun : Turn (own i) start (own i) start
    unfolding start
    begun =
        turn_first (own i) (bounds l lowest)
        (record {
          moments = N;
          bounded = bounded_some N cs (edges (own i)) l (forth_member low far L n K i inside) u.falling.bounded;
        })

    pub order_able : Able (d ∷ []) l
    unfolding start
    order_able = turn_able (own i) start (own i) (d ∷ []) side same start begun

    module _ (l₁ : List ℕ) (m₁ : ℕ) (c : bounds l₁ m₁ ≡ after_of (d ∷ []) (bounds l lowest)) where
      ordered : Turn (own i) start side (bounds l₁ m₁)
      unfolding start
      ordered = turn_more (own i) start (own i) (d ∷ []) side same start begun (bounds l₁ m₁) c

      pub lower_able : Able (side_of false low far K r i 1 n) l₁
      unfolding side
      lower_able = turn_able (own i) start side side [] (sym (append-nil side)) (bounds l₁ m₁) ordered

      module _ (l₂ : List ℕ) (m₂ : ℕ) (k : bounds l₂ m₂ ≡ after_of (side_of false low far K r i 1 n) (bounds l₁ m₁)) where
        after : bounds l₂ m₂ ≡ lowers_of (edges (own i)) (bounds l lowest)
        unfolding start side
        after =
            turn_last (own i) start (bounds l₂ m₂)
            (turn_more (own i) start side side [] (sym (append-nil side)) (bounds l₁ m₁) ordered (bounds l₂ m₂) k)

        fell : Falling N cs l l₂
        fell =
            checks_falling N cs (bounds l lowest) (bounds l₂ m₂) u.falling.bounded (edges (own i))
            (forth_member low far L n K i inside) after

        -- later steps keep what is settled,
        kept : (m : ℕ) → i < m → m < K → Settled (edges (own m)) l → Settled (edges (own m)) l₂
        kept m a w h =
            settled_kept (edges (own m)) l l₂ h fell.falls
            (λ b q.
            ap (λ (t : Bounds). at t.late b.from) after
            ∙ lowers_other N cs (edges (own i)) (bounds l lowest) (forth_member low far L n K i inside) u.falling.bounded
            b.from
            (λ z p x. apart i m z.to (ends i z p).1 (omega arith) w (x ∙ (ends m b q).0)))

        -- and this step settles its own.
        settles : Settled (edges (own i)) l₂
        settles =
            subst (λ (t : Bounds). Settled (edges (own i)) t.late) (sym after)
            (star_settles N cs (suc i) (edges (own i)) (bounds l lowest) (forth_member low far L n K i inside)
            u.falling.bounded (λ z p. ((ends i z p).0, apart i i z.to (ends i z p).1 (omega arith) inside)))

        pub descending_next : Descending from floor l₀ l₂ i r m₂
        descending_next =
            record {
              falling = falling_then N cs l₀ l l₂ u.falling fell;
              step = e;
              inside = omega (arith, u.inside);
              bottom = omega (
                arith,
                u.bottom,
                (checks_lowers N cs (bounds l lowest) (bounds l₂ m₂) u.falling.bounded (edges (own i))
                    (forth_member low far L n K i inside) after).low,
              );
              past = λ z m a w. pick z m a w (ℕ_discrete m i);
            }
          where
            pick : floor ≡ 0 → (m : ℕ) → i ≤ m → m < from → Dec (m ≡ i) → Settled (edges (own m)) l₂
            pick z m a w (yes p) = rw p settles
            pick z m a w (no p) = kept m (omega arith) (omega arith) (u.past z m (omega arith) w)

  -- no step is left, or all that is left may stay as it is
  module _ (from floor : ℕ) (l₀ l : List ℕ) (i s lowest : ℕ) (u : Descending from floor l₀ l i s lowest) where
    pub descending_last : i ≡ 0 → Descended from floor l₀ l lowest
    descending_last e =
        record {
          falling = u.falling;
          bottom = u.bottom;
          each = λ z m w. u.past z m (omega arith) w;
        }

    pub descending_done : i < lowest → Descended from floor l₀ l lowest
    descending_done h =
        record { falling = u.falling; bottom = u.bottom; each = λ z m w. absurd (omega (arith, u.bottom)) }
