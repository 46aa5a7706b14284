-- Effects of rounds at the two first places of a row, and the effect of k rounds from that of half as many.
use Rattle.std.specs.Prelude.{◌≡◌, Bool, true, false, List, ℕ, ◌+◌, ◌*◌, ◌≤◌, ◌<◌}
use Rattle.std.proofs.Common.{arith}
use Rattle.table.specs.Step.{Step}
use Rattle.runs.specs.Run.{copies}
use Rattle.zones.specs.Matrix.{Matrix}
use Rattle.zones.specs.Cells.{matrix}
use Rattle.effects.specs.Describes.{Describes, NoRun}
use Rattle.effects.specs.Begins.{fewer_steps}
use Rattle.effects.specs.Count.{limit}
use Rattle.effects.specs.Whole.{Side, whole}
use Rattle.effects.specs.Tells.{Tells, tells_stuck, tells_runs}
use Rattle.effects.specs.Joining.{Joinable, Joins}
use Rattle.gluing.specs.Laying.{effect_at}
use Rattle.joins.specs.Keeping.{LinesTo, kept_here, kept_other}
use Rattle.joins.specs.Rounds.{Tabled, Rounds, rounds_joinable, rounds_tell}

-- The effect of one round of τ is at place 0 of the row m.
pub record Once (w : ℕ) (τ : List Step) (m : List ℕ) : Type 0 where
  pub table : Tabled τ
  pub one : Describes (copies τ 1) (whole w (effect_at m 0))

-- Besides, those of i and of j rounds are at places a and b.
pub record Pair (w : ℕ) (τ : List Step) (i j a b : ℕ) (m : List ℕ) : Type 0 where
  pub once : Once w τ m
  pub first : Describes (copies τ i) (whole w (effect_at m (a * 196)))
  pub second : Describes (copies τ j) (whole w (effect_at m (b * 196)))
  pub places : (a < 2) × (b < 2)
  pub some : (0 < i) × (0 < j)
  pub few : (i ≤ limit) × (j ≤ limit)

-- Besides, that of k rounds is at place p, or they have no run.
pub record Rounded (w : ℕ) (τ : List Step) (k : ℕ) (ok : Bool) (p : ℕ) (m : List ℕ) : Type 0 where
  pub once : Once w τ m
  pub low : p < 2
  pub tells : Tells (copies τ k) ok (whole w (effect_at m (p * 196)))

module _ {w : ℕ} (side : Side w) {τ : List Step} {i j a b : ℕ} {m : List ℕ} (h : Pair w τ i j a b m) where
  left : Rounds τ i (whole w (effect_at m (a * 196)))
  left = record { table = h.once.table; describes = h.first }

  right : Rounds τ j (whole w (effect_at m (b * 196)))
  right = record { table = h.once.table; describes = h.second }

  -- They may be joined,
  pub pair_joinable : Joinable w (effect_at m (a * 196)) × Joinable w (effect_at m (b * 196))
  pair_joinable =
      rounds_joinable w side (effect_at m (a * 196)) (effect_at m (b * 196)) left right h.some.0 h.some.1 h.few.0 h.few.1

  module _ {C : Matrix} {ok : Bool} (e : Joins w (effect_at m (a * 196)) (effect_at m (b * 196)) ok C) where
    tells : Tells (copies τ (i + j)) ok (whole w C)
    tells =
        rounds_tell w side (effect_at m (a * 196)) (effect_at m (b * 196)) left right h.some.0 h.some.1 h.few.0
        h.few.1 C ok e

    -- and have no run together,
    pub pair_stuck : ok ≡ false → Rounded w τ (i + j) false 1 m
    pair_stuck q = record { once = h.once; low = omega arith; tells = tells_stuck (tells.stuck q) }

  -- or an effect, which is kept.
  pub pair_kept : {l z : List ℕ} {ok : Bool} → Joins w (effect_at m (a * 196)) (effect_at m (b * 196)) ok (matrix l) → ok ≡ true
      → LinesTo (w + w) (1 * 196) (w + w) l m z → Rounded w τ (i + j) true 1 z
  pair_kept {l} {z} {ok} e q t = record {
    once = record { table = h.once.table; one = one };
    low = omega arith;
    tells = tells_runs (kept_here w side 1 t ((tells e).runs q));
  }
    where
      one : Describes (copies τ 1) (whole w (effect_at z 0))
      one = kept_other w side 1 t 0 (omega arith) h.once.one

-- ---- One round, and the halves

pub once_rounded : {w : ℕ} {τ : List Step} {m : List ℕ} (k : ℕ) → k ≡ 1 → Once w τ m → Rounded w τ k true 0 m
once_rounded k e o = record { once = o; low = omega arith; tells = rw e (tells_runs o.one) }

-- Where some rounds have no run, more have none.
more_stuck : (τ : List Step) (j k : ℕ) → j ≤ k → NoRun (copies τ j) → NoRun (copies τ k)
more_stuck τ j k l n P u v p r = let t = fewer_steps τ j k P l r in n P u t.0 p t.1

pub rounded_stuck : {w : ℕ} {τ : List Step} {j p : ℕ} {ok : Bool} {m : List ℕ} (k : ℕ) → j ≤ k → ok ≡ false → Rounded w τ j ok p m
    → Rounded w τ k false 1 m
rounded_stuck {τ = τ} {j} k l e r = record {
  once = r.once;
  low = omega arith;
  tells = tells_stuck (more_stuck τ j k l (r.tells.stuck e));
}

-- An effect twice,
pub half_pair : {w : ℕ} {τ : List Step} {j p : ℕ} {ok : Bool} {m : List ℕ} → ok ≡ true → Rounded w τ j ok p m → 0 < j → j ≤ limit
    → Pair w τ j j p p m
half_pair e r s l = record {
  once = r.once;
  first = r.tells.runs e;
  second = r.tells.runs e;
  places = (r.low, r.low);
  some = (s, s);
  few = (l, l);
}

-- and one round more.
pub more_pair : {w : ℕ} {τ : List Step} {j : ℕ} {ok : Bool} {m : List ℕ} → ok ≡ true → Rounded w τ j ok 1 m → 0 < j → j ≤ limit
    → Pair w τ j 1 1 0 m
more_pair e r s l = record {
  once = r.once;
  first = r.tells.runs e;
  second = r.once.one;
  places = (omega arith, omega arith);
  some = (s, omega arith);
  few = (l, omega arith);
}

pub rounded_same : {w : ℕ} {τ : List Step} {j k : ℕ} {ok : Bool} {p : ℕ} {m : List ℕ} → j ≡ k → Rounded w τ j ok p m
    → Rounded w τ k ok p m
rounded_same e r = rw e at r

pub rounded_true : {w : ℕ} {τ : List Step} {k : ℕ} {ok : Bool} {p : ℕ} {m : List ℕ} → ok ≡ true → Rounded w τ k ok p m
    → Rounded w τ k true p m
rounded_true e r = rw e at r
