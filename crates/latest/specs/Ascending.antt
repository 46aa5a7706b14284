-- Checks forth, from step to step, of demands that each step has of its own; where they lower a bound, checks back from the step may follow
-- at once. `back` is what all these demands are together, as constraints; those from below are the others.
use Rattle.std.specs.Prelude.{◌≡◌, refl, Bool, true, false, ◌⊎◌, ℕ, ◌+◌, ◌*◌, ◌-◌, ◌%◌, ◌≤◌, ◌<◌}
use Rattle.std.proofs.Common.{sym, ap, subst, ◌∙◌, true≢false, inl, inr, mul-le-mul_right, arith}
use mathlib.Core.List.{List, ◌++◌, Memᴰ}
use Rattle.std.proofs.Math.Decide.{ℕ_discrete}
use Rattle.runs.specs.declared.Demand.{Demand}
use Rattle.paths.specs.Constraint.{Constraint}
use Rattle.checks.specs.InParts.{edges}
use Rattle.lowering.specs.Lowered.{Bounds, bounds, lowers_of}
use Rattle.lowering.specs.Bounded.{Bounded, bounded_some}
use Rattle.lowering.specs.Outcome.{total, Settled, Lowers, Falling, falling_first, falling_then, falling_among, checks_lowers, checks_falling}
use Rattle.latest.specs.Steps.{forth_edges, left_member}
use Rattle.latest.specs.Descent.{Descended}

-- What they give over all steps: r says whether one has lowered a bound, and where none has, all demands hold.
pub record Ascended (low far : List ℕ) (L n K : ℕ) (back : List Constraint) (l l' : List ℕ) (r : Bool) : Type 0 where
  pub falling : Falling (K + n + 1) (forth_edges low far L n K ++ back) l l'
  pub quiet : r ≡ false → (l' ≡ l) × Settled back l'
  pub loud : r ≡ true → total l' < total l

module _ (low far : List ℕ) (L n K : ℕ) (own : ℕ → List Demand) (back : List Constraint) where
  -- the number of moments
  abbrev N : ℕ
  N = K + n + 1

  abbrev forth : List Constraint
  forth = forth_edges low far L n K

  abbrev cs : List Constraint
  cs = forth ++ back

  -- What the checks of step i give, after checks of which h says whether one has lowered a bound: r says it of these too, and step
  -- `next` is the one to go on with. Where these have lowered none, all is as it was, and the demands of the step hold.
  pub record Stepped (i : ℕ) (h : Bool) (l l' : List ℕ) (r : Bool) (next : ℕ) : Type 0 where
    pub falling : Falling N cs l l'
    pub within : next ≤ i + 1
    pub either : ((r ≡ h) × (l' ≡ l) × (next ≡ i + 1) × Settled (edges (own i)) l') ⊎ ((r ≡ true) × (total l' < total l))

  -- l was lowered by the checks of step i to l₁, and m is not below N where nothing was lowered
  module _ (i : ℕ) (h : Bool) (l : List ℕ) (b : Bounded N cs l) (member : (c : Constraint) → Memᴰ c (edges (own i)) → Memᴰ c cs)
      (l₁ : List ℕ) (m₀ m : ℕ) (few : N ≤ m₀) (after : bounds l₁ m ≡ lowers_of (edges (own i)) (bounds l m₀)) where
    lowers : Lowers N (edges (own i)) (bounds l m₀) (bounds l₁ m)
    lowers = checks_lowers N cs (bounds l m₀) (bounds l₁ m) b (edges (own i)) member after

    fell : Falling N cs l l₁
    fell = checks_falling N cs (bounds l m₀) (bounds l₁ m) b (edges (own i)) member after

    pub stepped_quiet : m₀ ≤ m → Stepped i h l l₁ h (i + 1)
    stepped_quiet w =
        record {
          falling = fell;
          within = omega arith;
          either =
              inl (
                refl,
                ap (λ (t : Bounds). t.late) same.0,
                refl,
                subst (λ (t : Bounds). Settled (edges (own i)) t.late) (sym same.0) same.1,
              );
        }
      where
        same : (bounds l₁ m ≡ bounds l m₀) × Settled (edges (own i)) l
        same = lowers.quiet (omega arith)

    pub stepped_hit : m < m₀ → Stepped i h l l₁ true (i + 1)
    stepped_hit w = record { falling = fell; within = omega arith; either = inr (refl, lowers.less w) }

    -- the checks back from here
    pub back_able : Bounded N forth l₁
    back_able = bounded_some N cs forth l₁ (left_member forth back) fell.bounded

    pub stepped_mended : m < m₀ → (from floor : ℕ) → floor ≤ i + 1 → (l₂ : List ℕ) (lowest : ℕ)
        → Descended low far L n K from floor l₁ l₂ lowest → Stepped i h l l₂ true lowest
    stepped_mended w from floor f l₂ lowest d =
        record {
          falling = falling_then N cs l l₁ l₂ fell then;
          within = omega (arith, d.bottom);
          either = inr (refl, omega (arith, lowers.less w, then.sum));
        }
      where
        then : Falling N cs l₁ l₂
        then = falling_among N cs forth l₁ l₂ (left_member forth back) fell.bounded d.falling

  -- ---- all steps
  -- On the way: step i, which is step s of its round, is the next.
  pub record Ascending (l₀ l : List ℕ) (i s : ℕ) (h : Bool) : Type 0 where
    pub falling : Falling N cs l₀ l
    pub step : s ≡ i % L
    pub quiet : h ≡ false → (l ≡ l₀) × ((m : ℕ) → m < i → Settled (edges (own m)) l)
    pub loud : h ≡ true → total l < total l₀

  pub ascending_first : (l : List ℕ) → Bounded N cs l → 0 ≡ 0 % L → Ascending l l 0 0 false
  ascending_first l b e =
      record {
        falling = falling_first N cs l b;
        step = e;
        quiet = λ p. (refl, λ m w. absurd (omega arith));
        loud = λ p. absurd (true≢false (sym p));
      }

  module _ (l₀ l : List ℕ) (i s : ℕ) (h : Bool) (u : Ascending l₀ l i s h) where
    pub ascending_next : (l' : List ℕ) (r : Bool) (next : ℕ) → Stepped i h l l' r next → (s' : ℕ) → s' ≡ next % L
        → Ascending l₀ l' next s' r
    ascending_next l' r next a s' e = go a.either
      where
        fell : Falling N cs l₀ l'
        fell = falling_then N cs l₀ l l' u.falling a.falling

        Was : List ℕ → Type 0
        Was x = (m : ℕ) → m < i → Settled (edges (own m)) x

        each : (m : ℕ) → m < i + 1 → Dec (m ≡ i) → Settled (edges (own i)) l' → Was l' → Settled (edges (own m)) l'
        each m w (yes p) t k = rw p t
        each m w (no p) t k = k m (omega arith)

        go : ((r ≡ h) × (l' ≡ l) × (next ≡ i + 1) × Settled (edges (own i)) l') ⊎ ((r ≡ true) × (total l' < total l))
            → Ascending l₀ l' next s' r
        go (inl q) =
            record {
              falling = fell;
              step = e;
              quiet = λ p.
                  let before = u.quiet (sym q.0 ∙ p) in (
                    q.1 ∙ before.0,
                    λ m w.
                        each m (omega (arith, q.2)) (ℕ_discrete m i) q.3 (subst (λ x. Was x) (sym q.1) before.1),
                  );
              loud = λ p. omega (arith, u.loud (sym q.0 ∙ p), ap total q.1);
            }
        go (inr q) =
            record {
              falling = fell;
              step = e;
              quiet = λ p. absurd (true≢false (sym q.0 ∙ p));
              loud = λ p. omega (arith, q.1, u.falling.sum);
            }

    -- what falls: the bounds, or else the steps that are left
    pub ascending_less : i < K → (l' : List ℕ) (r : Bool) (next : ℕ) → Stepped i h l l' r next
        → total l' * (K + 2) + (K + 1 - next) < total l * (K + 2) + (K + 1 - i)
    ascending_less w l' r next a = go a.either
      where
        go : ((r ≡ h) × (l' ≡ l) × (next ≡ i + 1) × Settled (edges (own i)) l') ⊎ ((r ≡ true) × (total l' < total l))
            → total l' * (K + 2) + (K + 1 - next) < total l * (K + 2) + (K + 1 - i)
        go (inl q) = omega (arith, ap (λ x. total x * (K + 2)) q.1, q.2)
        go (inr q) = omega (arith, mul-le-mul_right (K + 2) q.1)

    pub ascending_last : (((m : ℕ) → m < K → Settled (edges (own m)) l) → Settled back l) → K ≤ i → Ascended low far L n K back l₀ l h
    ascending_last all w =
        record {
          falling = u.falling;
          quiet = λ p. ((u.quiet p).0, all (λ m q. (u.quiet p).1 m (omega arith)));
          loud = u.loud;
        }
