-- The left part of an effect, among the vertices of the configuration before, tells from where the steps run. With more
-- rounds it only tightens; where one more round, or several, leave it as it is, every number of rounds runs.
use Rattle.std.specs.Prelude.{◌≡◌, refl, List, ◌++◌}
use Rattle.std.proofs.Common.{ap, arith, mul-pos}
use Prim.Native.Nat.{ℕ, zero, suc, ◌+◌, ◌*◌, ◌≤◌, ◌<◌}
use Rattle.std.proofs.Math.Decide.{dec_lt}
use Rattle.table.specs.Step.{Step, Fairs}
use Rattle.runs.specs.Run.{copies}
use Rattle.runs.specs.Copies.{fairs_copies}
use Rattle.runs.specs.Steps.{Config, Steps, stay, steps_same, steps_join, steps_split, steps_affine}
use Rattle.zones.specs.Bound.{◌⊑◌}
use Rattle.zones.specs.Values.{sat_mono}
use Rattle.zones.specs.Matrix.{Matrix, Solves}
use Rattle.zones.specs.Extend.{Extension, extend}
use Rattle.effects.specs.Describes.{Scaled, Describes, ends_left, sound_ends, tightest}
use Rattle.effects.specs.Begins.{Begins, allowed_scale, fewer_steps}

-- A run of σ starts from u, scaled and shifted.
pub record From (σ : List Step) (P : ℕ) (u : Config) : Type 0 where
  pub scale : ℕ
  pub shift : ℕ
  pub scale_pos : 0 < scale
  pub end : Config
  pub run : Steps (scale * P) σ (λ a. scale * u a + shift) end

-- The left part of A is as tight as that of B.
abbrev pub Left : Matrix → Matrix → Type 0
Left A B = (a b : ℕ) → a < 7 → b < 7 → A a b ⊑ B a b

-- ---- The left part tells the starts of the runs

-- The start of a run solves it,
pub left_sound : {σ : List Step} {M : Matrix} → Fairs σ → Describes σ M
    → (P : ℕ) (u v : Config) → 0 < P → Steps P σ u v → Solves 7 P M u
left_sound f d P u v p r a b ha hb =
    rw (ends_left u v a ha, ends_left u v b hb) (sound_ends f d P u v p r a b (omega arith) (omega arith))

-- and what solves it is the start of a run, up to scale and shift.
pub left_exact : {σ : List Step} {M : Matrix} → Fairs σ → Describes σ M
    → (P : ℕ) (u : Config) → 0 < P → Solves 7 P M u → From σ P u
left_exact {σ} {M} f d P u p s = record {
  scale = sc.scale * e.scale;
  shift = sc.scale * e.shift + sc.shift;
  scale_pos = mul-pos sc.scale_pos e.scale_pos;
  end = λ a. sc.scale * e.value (7 + a) + sc.shift;
  run = run;
}
  where
    r : (r : Extension 14 P M (λ a. a < 7) u 14) × Solves 14 r.parts M r.value
    r = extend 14 P M d.closed (λ a. a < 7) (λ a. dec_lt a 7) u p (λ a b ha hb sa sb. s a b sa sb)

    e : Extension 14 P M (λ a. a < 7) u 14
    e = r.0

    sc : Scaled σ e.parts e.value
    sc = d.exact e.parts e.value (rw e.parts_is (mul-pos e.scale_pos p)) r.1

    parts : sc.scale * e.parts ≡ sc.scale * e.scale * P
    parts = omega (arith, ap (λ n. sc.scale * n) e.parts_is)

    run : Steps (sc.scale * e.scale * P) σ
        (λ a. sc.scale * e.scale * u a + (sc.scale * e.shift + sc.shift))
        (λ a. sc.scale * e.value (7 + a) + sc.shift)
    run =
        steps_same (sc.scale * e.scale * P) σ f
        (λ a l. omega (arith, ap (λ n. sc.scale * n) (e.value_is a (omega arith) l))) (λ a l. refl)
        (rw parts at sc.run)

-- A run from an allowed start begins there.
pub from_begins : (D : Matrix) (σ : List Step) (P : ℕ) (u : Config) → 0 < P → Solves 7 P D u → From σ P u → Begins D σ
from_begins D σ P u p s t = record {
  parts = t.scale * P;
  positive = mul-pos t.scale_pos p;
  first = λ a. t.scale * u a + t.shift;
  end = t.end;
  allowed = allowed_scale D P t.scale t.shift u t.scale_pos s;
  run = t.run;
}

-- ---- Rounds

module _ (τ : List Step) (f : Fairs τ) where
  -- More rounds have fewer starts.
  pub falls : (k : ℕ) (A B : Matrix) → Describes (copies τ k) A → Describes (copies τ (suc k)) B → Left B A
  falls k A B dA dB a b ha hb =
      tightest dB a b (omega arith) (omega arith) (A a b) (λ P x p r.
      let t = fewer_steps τ k (suc k) P (omega arith) r in
      left_sound (fairs_copies τ k f) dA P x t.0 p t.1 a b ha hb)

  -- A start of n rounds is a start of fewer.
  from_fewer : (j n P : ℕ) (u : Config) → j ≤ n → From (copies τ n) P u → From (copies τ j) P u
  from_fewer j n P u l r =
      let t = fewer_steps τ j n (r.scale * P) l r.run in
      record { scale = r.scale; shift = r.shift; scale_pos = r.scale_pos; end = t.0; run = t.1 }

  module _ (k n : ℕ) (more : k < n) (A B : Matrix) (dA : Describes (copies τ k) A) (dB : Describes (copies τ n) B)
      (same : Left A B) where
    -- Where n rounds, more than k, do not tighten the left part, a run of any number of rounds starts where one of k
    -- does: the first round leads to such a start again.
    pub onward : (m P : ℕ) (u : Config) → 0 < P → Solves 7 P A u → From (copies τ m) P u
    unfolding copies
    onward zero P u p s = record {
      scale = 1;
      shift = 0;
      scale_pos = omega arith;
      end = λ a. 1 * u a + 0;
      run = stay (λ a l. refl);
    }
    onward (suc m) P u p s = go (onward m Q w (mul-pos g.scale_pos p) starts)
      where
        g : From (copies τ (suc k)) P u
        g =
            from_fewer (suc k) n P u (omega arith)
            (left_exact (fairs_copies τ n f) dB P u p
            (λ a b ha hb. sat_mono P (u a) (u b) p (same a b ha hb) (s a b ha hb)))

        Q : ℕ
        Q = g.scale * P

        t : (w : Config) × Steps Q τ (λ a. g.scale * u a + g.shift) w × Steps Q (copies τ k) w g.end
        t = steps_split Q τ (copies τ k) g.run

        w : Config
        w = t.0

        starts : Solves 7 Q A w
        starts = left_sound (fairs_copies τ k f) dA Q w g.end (mul-pos g.scale_pos p) t.2

        go : From (copies τ m) Q w → From (copies τ (suc m)) P u
        go n = record {
          scale = n.scale * g.scale;
          shift = n.scale * g.shift + n.shift;
          scale_pos = mul-pos n.scale_pos g.scale_pos;
          end = n.end;
          run = run;
        }
          where
            q : n.scale * Q ≡ n.scale * g.scale * P
            q = omega arith

            U : Config
            U a = n.scale * g.scale * u a + (n.scale * g.shift + n.shift)

            head : Steps (n.scale * Q) τ U (λ a. n.scale * w a + n.shift)
            head =
                steps_same (n.scale * Q) τ f (λ a l. omega arith) (λ a l. refl)
                (steps_affine Q n.scale n.shift n.scale_pos t.1)

            run : Steps (n.scale * g.scale * P) (τ ++ copies τ m) U n.end
            run = rw q at (steps_join (n.scale * Q) τ (copies τ m) (fairs_copies τ m f) head n.run)

    -- So where k rounds run from an allowed start, every number of rounds does.
    pub settled : (D : Matrix) → Begins D (copies τ k) → (m : ℕ) → Begins D (copies τ m)
    settled D r m =
        from_begins D (copies τ m) r.parts r.first r.positive r.allowed
        (onward m r.parts r.first r.positive
        (left_sound (fairs_copies τ k f) dA r.parts r.first r.end r.positive r.run))
