-- The way up by doubling, and the way down by adding: what is known at each place.
use Rattle.std.specs.Prelude.{◌≡◌, refl, ◌≢◌, ◌↔◌, Bool, true, false, List, ℕ, suc, ◌+◌, ◌*◌, ◌/◌, ◌^◌, ◌≤◌, ◌<◌}
use Rattle.std.proofs.Common.{sym, subst, ◌∙◌, arith, add-one}
use Rattle.std.proofs.Math.Decide.{ℕ_discrete}
use Rattle.table.specs.Step.{Step}
use Rattle.runs.specs.Run.{copies}
use Rattle.zones.specs.Matrix.{Matrix}
use Rattle.zones.specs.Cells.{matrix}
use Rattle.effects.specs.Describes.{Describes}
use Rattle.effects.specs.Begins.{Begins, no_run}
use Rattle.effects.specs.Count.{limit}
use Rattle.effects.specs.Steady.{Steady, steady_settled, steady_limit, steady_always}
use Rattle.effects.specs.Known.{twice, known_top, known_more, known_same}
use Rattle.effects.specs.Whole.{Side, whole}
use Rattle.effects.specs.Tells.{Tells}
use Rattle.effects.specs.Joining.{Joinable, Joins}
use Rattle.effects.specs.Stored.{EffectOf, cells_effect}
use Rattle.gluing.specs.Laying.{effect_at}
use Rattle.joins.specs.Keeping.{LinesTo, kept_here, kept_other}
use Rattle.climbing.specs.LeftPart.{SameLeft, same_tight, clash}
use Rattle.joins.specs.Rounds.{Tabled, Rounds, sized_rounds, rounds_joinable, rounds_tell}
use Rattle.climbing.specs.Climbing.{Counted, Powers, Reached, power_limit, power_some}

-- Every number of rounds runs from the starts that D allows.
abbrev pub Always : Matrix → List Step → Type 0
Always D τ = (k : ℕ) → Begins D (copies τ k)

-- Every number of rounds runs from the starts that D allows; and the effect of some of them is at place i of the row m, whose left part
-- tells from where every number of rounds runs.
pub record Unending (w : ℕ) (D : Matrix) (τ : List Step) (i : ℕ) (m : List ℕ) : Type 0 where
  pub always : Always D τ
  pub low : i ≤ 24
  pub rounds : Rounds τ (2 ^ i) (whole w (effect_at m (i * 196)))
  pub steady : Steady τ (whole w (effect_at m (i * 196)))

-- Where doubling ended, when one round runs from the starts that D allows: at a place below 24, twice whose rounds do not, or at
-- 24, where every number of rounds does.
pub record Climbs (w : ℕ) (D : Matrix) (m z : List ℕ) (place settled power : ℕ) : Type 0 where
  pub low : place ≤ 24
  pub endless : place ≡ 24 → (τ : List Step) → Reached w D τ 0 m → Unending w D τ settled z
  pub is : place ≢ 24 → power ≡ 2 ^ place
  pub top : place ≢ 24 → (τ : List Step) → Reached w D τ 0 m
      → Reached w D τ place z × (¬ Begins D (copies τ (power + power)))

-- On the way down from a place: the smaller powers below i are still there; from the starts that D allows c rounds run, whose
-- effect is at the place, and c + 2 ^ i do not.
pub record Down (w : ℕ) (D : Matrix) (τ : List Step) (place i c : ℕ) (m : List ℕ) : Type 0 where
  pub powers : Powers w τ i m
  pub counted : Counted D τ i c (whole w (effect_at m (place * 196)))

-- ---- Up

double : (i : ℕ) → 2 ^ (i + 1) ≡ 2 ^ i + 2 ^ i
double i = rw (add-one i) (sym (twice i))

-- One place more.
powers_more : (w : ℕ) (side : Side w) (τ : List Step) (n : ℕ) (l m z : List ℕ) → Powers w τ n m
    → Describes (copies τ (2 ^ n)) (whole w (matrix l)) → LinesTo (w + w) (n * 196) (w + w) l m z → Powers w τ (n + 1) z
powers_more w side τ n l m z h d t = record { table = h.table; at = λ j k. at j k (ℕ_discrete j n) }
  where
    at : (j : ℕ) → j < n + 1 → Dec (j ≡ n) → Describes (copies τ (2 ^ j)) (whole w (effect_at z (j * 196)))
    at j k (yes e) = rw e (kept_here w side n t d)
    at j k (no e) = kept_other w side n t j e (h.at j (omega arith))

-- The other places stay.
powers_kept : (w : ℕ) (side : Side w) (τ : List Step) (n place : ℕ) (l m z : List ℕ) → n ≤ place → Powers w τ n m
    → LinesTo (w + w) (place * 196) (w + w) l m z → Powers w τ n z
powers_kept w side τ n place l m z b h t =
    record { table = h.table; at = λ j k. kept_other w side place t j (omega arith) (h.at j k) }

-- Fewer places.
powers_fewer : (w : ℕ) (τ : List Step) (n k : ℕ) (m : List ℕ) → k ≤ n → Powers w τ n m → Powers w τ k m
powers_fewer w τ n k m l h = record { table = h.table; at = λ j b. h.at j (omega arith) }

module _ (w : ℕ) (side : Side w) (D : Matrix) (τ : List Step) (i : ℕ) (m : List ℕ) (h : Reached w D τ i m) where
  abbrev table : Tabled τ
  table = h.powers.table

  -- The effect at place i.
  here : Rounds τ (2 ^ i) (whole w (effect_at m (i * 196)))
  here = record { table = table; describes = h.powers.at i (omega arith) }

  -- Where its left part tells from where every number of rounds runs, they do so from the starts that D allows.
  unending : i ≤ 24 → Steady τ (whole w (effect_at m (i * 196))) → Unending w D τ i m
  unending l t = record {
    always = steady_always τ table.fair t D (2 ^ i) here.describes h.runs;
    low = l;
    rounds = here;
    steady = t;
  }

  -- So it is where that of 2 ^ 24 rounds is there.
  pub up_limit : i ≡ 24 → Unending w D τ i m
  up_limit e =
      unending (omega arith) (steady_limit τ table.fair table.some (whole w (effect_at m (i * 196)))
      (subst (λ n. Describes (copies τ (2 ^ n)) (whole w (effect_at m (i * 196)))) e here.describes))

  module _ (low : i < 24) where
    few : 2 ^ i ≤ limit
    few = power_limit i (omega arith)

    -- It may be joined with itself,
    pub up_joinable : Joinable w (effect_at m (i * 196))
    up_joinable =
        (rounds_joinable w side (effect_at m (i * 196)) (effect_at m (i * 196)) here here (power_some i) (power_some i) few few).0

    module _ (C : Matrix) (ok : Bool) (j : Joins w (effect_at m (i * 196)) (effect_at m (i * 196)) ok C) where
      tells : Tells (copies τ (2 ^ i + 2 ^ i)) ok (whole w C)
      tells =
          rounds_tell w side (effect_at m (i * 196)) (effect_at m (i * 196)) here here (power_some i) (power_some i) few few C ok
          j

      -- and twice as many have no run,
      pub up_stuck : ok ≡ false → ¬ Begins D (copies τ (2 ^ i + 2 ^ i))
      up_stuck e = no_run D (tells.stuck e)

      -- or have an effect;
      pub up_runs : ok ≡ true → Describes (copies τ (2 ^ (i + 1))) (whole w C)
      up_runs e = subst (λ n. Describes (copies τ n) (whole w C)) (sym (double i)) (tells.runs e)

    module _ (l : List ℕ) (d : Describes (copies τ (2 ^ (i + 1))) (whole w (matrix l))) where
      -- where it leaves the left part as it was, every number of rounds runs;
      pub up_settled : SameLeft w w (i * 196) m l → Unending w D τ i m
      up_settled s =
          unending (omega arith) (steady_settled τ table.fair (2 ^ i) (2 ^ (i + 1)) more (whole w (effect_at m (i * 196)))
          (whole w (matrix l)) here.describes d (same_tight side s))
        where
          more : 2 ^ i < 2 ^ (i + 1)
          more = omega (arith, double i, power_some i)

      -- and it tells whether twice as many run from the starts that D allows:
      pub up_effect : EffectOf w 0 21 l (copies τ (2 ^ (i + 1)))
      up_effect = cells_effect side (sized_rounds table (2 ^ (i + 1)) (power_some (i + 1)) (power_limit (i + 1) (omega arith))) d

      -- they do,
      pub up_more : (z : List ℕ) → LinesTo (w + w) ((i + 1) * 196) (w + w) l m z → Begins D (copies τ (2 ^ (i + 1)))
          → Reached w D τ (i + 1) z
      up_more z t r = record { powers = powers_more w side τ (i + 1) l m z h.powers d t; runs = r }

-- or they do not.
pub up_refused : (D : Matrix) (τ : List Step) (i : ℕ) (ok : Bool) → (ok ≡ true) ↔ Begins D (copies τ (2 ^ (i + 1)))
    → ok ≡ false → ¬ Begins D (copies τ (2 ^ i + 2 ^ i))
up_refused D τ i ok e q r = clash (sym q ∙ e.1 (subst (λ n. Begins D (copies τ n)) (sym (double i)) r))

-- Where it ends.
module _ (w : ℕ) (D : Matrix) (m z : List ℕ) where
  pub climbs_top : (place settled power : ℕ) → place < 24 → power ≡ 2 ^ place
      → ((τ : List Step) → Reached w D τ 0 m → Reached w D τ place z × (¬ Begins D (copies τ (2 ^ place + 2 ^ place))))
      → Climbs w D m z place settled power
  climbs_top place settled power low e f = record {
    low = omega arith;
    endless = λ q. absurd (omega arith);
    is = λ q. e;
    top = λ q. rw e f;
  }

  pub climbs_endless : (settled power : ℕ) → ((τ : List Step) → Reached w D τ 0 m → Unending w D τ settled z)
      → Climbs w D m z 24 settled power
  climbs_endless settled power f = record {
    low = omega arith;
    endless = λ q. f;
    is = λ q. absurd (q refl);
    top = λ q. absurd (q refl);
  }

-- Twice a power of two.
pub double_power : (i p : ℕ) → i < 24 → p ≡ 2 ^ i → (p + p ≡ 2 ^ (i + 1)) × (p + p ≤ limit)
double_power i p l e =
    let q : p + p ≡ 2 ^ suc i = rw e (twice i) in
    (rw (add-one i) q, omega (arith, power_limit (suc i) (omega arith)))

-- ---- Down

-- From the top,
pub down_top : (w : ℕ) (D : Matrix) (τ : List Step) (place power : ℕ) (m : List ℕ) → place < 24 → power ≡ 2 ^ place
    → Reached w D τ place m × (¬ Begins D (copies τ (power + power))) → Down w D τ place place power m
down_top w D τ place power m low e (h, n) = record {
  powers = powers_fewer w τ (place + 1) place m (omega arith) h.powers;
  counted = record {
    known = rw e (known_top D τ place h.runs (rw e at n));
    effect = rw e (record { table = h.powers.table; describes = h.powers.at place (omega arith) });
    some = rw e (power_some place);
    small = rw e (omega (arith, twice place, power_limit (suc place) (omega arith)));
  };
}

module _ (w : ℕ) (side : Side w) (D : Matrix) (τ : List Step) (place i c : ℕ) (m : List ℕ) (low : i < place)
    (most : place < 24) (h : Down w D τ place (i + 1) c m) where
  one : Rounds τ (2 ^ i) (whole w (effect_at m (i * 196)))
  one = record { table = h.powers.table; describes = h.powers.at i (omega arith) }

  counted : Counted D τ (suc i) c (whole w (effect_at m (place * 196)))
  counted = rw (add-one i) at h.counted

  small : c + 2 ^ i + 2 ^ i ≤ limit
  small = omega (arith, counted.small, twice i)

  -- to 2 ^ i rounds more, which do not wrap
  pub down_small : c + 2 ^ i ≤ limit
  down_small = omega (arith, small)

  -- and may be joined to those counted.
  pub down_joinable : Joinable w (effect_at m (place * 196)) × Joinable w (effect_at m (i * 196))
  down_joinable =
      rounds_joinable w side (effect_at m (place * 196)) (effect_at m (i * 196)) counted.effect one counted.some
      (power_some i) (omega (arith, small)) (omega (arith, small))

  -- Where they do not run together from the starts that D allows, the count stays:
  same : ¬ Begins D (copies τ (c + 2 ^ i)) → Down w D τ place i c m
  same n = record {
    powers = powers_fewer w τ (i + 1) i m (omega arith) h.powers;
    counted = record {
      known = known_same D τ i c counted.known n;
      effect = counted.effect;
      some = counted.some;
      small = omega (arith, small);
    };
  }

  -- they are not admitted,
  pub down_refused : (ok : Bool) → (ok ≡ true) ↔ Begins D (copies τ (c + 2 ^ i)) → ok ≡ false → Down w D τ place i c m
  down_refused ok e q = same (λ r. clash (sym q ∙ e.1 r))

  module _ (C : Matrix) (ok : Bool) (j : Joins w (effect_at m (place * 196)) (effect_at m (i * 196)) ok C) where
    both : Tells (copies τ (c + 2 ^ i)) ok (whole w C)
    both =
        rounds_tell w side (effect_at m (place * 196)) (effect_at m (i * 196)) counted.effect one counted.some
        (power_some i) (omega (arith, small)) (omega (arith, small)) C ok j

    -- or have no run at all.
    pub down_stuck : ok ≡ false → Down w D τ place i c m
    down_stuck e = same (no_run D (both.stuck e))

    -- Else they have an effect,
    pub down_runs : ok ≡ true → Describes (copies τ (c + 2 ^ i)) (whole w C)
    down_runs e = both.runs e

  module _ (l : List ℕ) (d : Describes (copies τ (c + 2 ^ i)) (whole w (matrix l))) where
    -- which tells whether they are admitted,
    pub down_effect : EffectOf w 0 21 l (copies τ (c + 2 ^ i))
    down_effect = cells_effect side (sized_rounds h.powers.table (c + 2 ^ i) (omega (arith, counted.some)) down_small) d

    -- and the count grows where they are.
    pub down_more : (z : List ℕ) → LinesTo (w + w) (place * 196) (w + w) l m z → Begins D (copies τ (c + 2 ^ i))
        → Down w D τ place i (c + 2 ^ i) z
    down_more z t r = record {
      powers =
          powers_fewer w τ (i + 1) i z (omega arith) (powers_kept w side τ (i + 1) place l m z (omega arith) h.powers t);
      counted = record {
        known = known_more D τ i c counted.known r;
        effect = record { table = h.powers.table; describes = kept_here w side place t d };
        some = omega (arith, counted.some);
        small = small;
      };
    }

-- Half of a power of two.
pub half_power : (i p : ℕ) → p ≡ 2 ^ (i + 1) → p / 2 ≡ 2 ^ i
half_power i p e = omega (arith, double i)
