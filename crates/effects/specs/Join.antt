-- Two effects joined: the matrices share the configuration between them, vertices 7 to 13 of 21; their canonical matrix,
-- with these left out, is the effect of both lists of steps, one after the other.
use Rattle.std.specs.Prelude.{◌≡◌, refl, List, ◌++◌}
use Rattle.std.proofs.Common.{ap, ◌∙◌, inl, inr, arith}
use Prim.Native.Nat.{ℕ, ◌+◌, ◌*◌, ◌<◌}
use Rattle.std.proofs.Math.Nat.{mul-pos}
use Rattle.table.specs.Step.{Step, Fairs}
use Rattle.runs.specs.Steps.{Config, Steps, steps_same, steps_join, steps_split, steps_affine}
use Rattle.zones.specs.Matrix.{Matrix, Solves, Closed, Flat}
use Rattle.zones.specs.Extend.{Fits, Extension, extend}
use Rattle.zones.specs.Closure.{Canonical}
use Rattle.effects.specs.Describes.{past, Scaled, Describes, NoRun}
use Rattle.effects.specs.Outer.{outer, restrict, outer_low, Outside, outside, inner, inner_left, inner_right}
use Rattle.effects.specs.Outer.{inner_low, outer_inner, row, row_left, row_middle, row_right, row_outer}

-- x solves A on the first fourteen vertices, and B on the last fourteen.
abbrev pub Both : Matrix → Matrix → ℕ → (ℕ → ℕ) → Type 0
Both A B P x = Solves 14 P A x × Solves 14 P B (past x)

module _ (σ τ : List Step) (A B : Matrix) (fσ : Fairs σ) (fτ : Fairs τ) (dA : Describes σ A) (dB : Describes τ B) where
  -- A run, cut in two, solves both.
  whole : (P : ℕ) (u w v : Config) → 0 < P → Steps P σ u w → Steps P τ w v → Both A B P (row u w v)
  whole P u w v p r t = (
    dA.sound P (row u w v) p (steps_same P σ fσ (row_left u w v) (row_middle u w v) r),
    dB.sound P (past (row u w v)) p (steps_same P τ fτ (row_middle u w v) (row_right u w v) t),
  )

  -- Where nothing solves both, there is no run.
  pub join_fails : ((P : ℕ) (x : ℕ → ℕ) → 0 < P → ¬ Both A B P x) → NoRun (σ ++ τ)
  join_fails n P u v p r =
      let t = steps_split P σ τ r in n P (row u t.0 v) p (whole P u t.0 v p t.1 t.2)

  module _ (C : Matrix) (cl : Canonical 21 C (Both A B)) where
    join_closed : Closed 14 (restrict C)
    unfolding restrict
    join_closed = record {
      tri = λ a b c ha hb hc.
          cl.closed.tri (outer a) (outer b) (outer c) (outer_low a ha) (outer_low b hb) (outer_low c hc);
      diag = λ i h. cl.closed.diag (outer i) (outer_low i h);
    }

    join_flat : Flat 14 (restrict C)
    unfolding restrict
    join_flat a h = cl.flat (outer a) (outer_low a h)

    join_sound : (P : ℕ) (x : ℕ → ℕ) → 0 < P → Steps P (σ ++ τ) x (past x) → Solves 14 P (restrict C) x
    unfolding restrict
    join_sound P x p r a b ha hb =
        let t = steps_split P σ τ r in
        let s = (cl.is P (row x t.0 (past x)) p).1 (whole P x t.0 (past x) p t.1 t.2) in
        rw (row_outer x t.0 a ha, row_outer x t.0 b hb)
        at (s (outer a) (outer b) (outer_low a ha) (outer_low b hb))

    -- Scaled and shifted three times over, in one.
    num : (c d h k v s y t : ℕ) → v ≡ s * y + t
        → d * (c * v + h) + c * k ≡ c * d * s * y + (c * d * t + d * h + c * k)
    num c d h k v s y t e = omega (arith, ap (λ n. c * d * n) e)

    -- A solution extends to the configuration between; both halves are runs, and in common parts they meet.
    join_exact : (P : ℕ) (x : ℕ → ℕ) → 0 < P → Solves 14 P (restrict C) x → Scaled (σ ++ τ) P x
    unfolding restrict
    join_exact P x p s = record {
      scale = c * d * e.scale;
      shift = c * d * e.shift + d * f.shift + c * g.shift;
      scale_pos = mul-pos (mul-pos f.scale_pos g.scale_pos) e.scale_pos;
      run = steps_join Q σ τ fτ head tail;
    }
      where
        y : ℕ → ℕ
        y a = x (inner a)

        fits : Fits 21 P C Outside y
        fits a b ha hb sa sb =
            rw (outer_inner a sa, outer_inner b sb)
            at (s (inner a) (inner b) (inner_low a ha) (inner_low b hb))

        r : (r : Extension 21 P C Outside y 21) × Solves 21 r.parts C r.value
        r = extend 21 P C cl.closed Outside outside y p fits

        e : Extension 21 P C Outside y 21
        e = r.0

        many : 0 < e.parts
        many = rw e.parts_is (mul-pos e.scale_pos p)

        glued : Both A B e.parts e.value
        glued = (cl.is e.parts e.value many).0 r.1

        f : Scaled σ e.parts e.value
        f = dA.exact e.parts e.value many glued.0

        g : Scaled τ e.parts (past e.value)
        g = dB.exact e.parts (past e.value) many glued.1

        c : ℕ
        c = f.scale

        d : ℕ
        d = g.scale

        Q : ℕ
        Q = c * d * e.scale * P

        one : d * (c * e.parts) ≡ Q
        one = omega (arith, ap (λ n. c * d * n) e.parts_is)

        two : c * (d * e.parts) ≡ Q
        two = omega (arith, ap (λ n. c * d * n) e.parts_is)

        left : (a : ℕ) → a < 7 → e.value a ≡ e.scale * x a + e.shift
        left a l = e.value_is a (omega arith) (inl l) ∙ ap (λ n. e.scale * x n + e.shift) (inner_left a l)

        right : (a : ℕ) → a < 7 → e.value (7 + (7 + a)) ≡ e.scale * x (7 + a) + e.shift
        right a l =
            e.value_is (7 + (7 + a)) (omega arith) (inr (omega arith))
            ∙ ap (λ n. e.scale * x n + e.shift) (inner_right (7 + (7 + a)) (omega arith) ∙ omega arith)

        U : Config
        U a = c * d * e.scale * x a + (c * d * e.shift + d * f.shift + c * g.shift)

        W : Config
        W a = d * (c * e.value (7 + a) + f.shift) + c * g.shift

        head : Steps Q σ U W
        head =
            steps_same Q σ fσ
            (λ a l. num c d f.shift g.shift (e.value a) e.scale (x a) e.shift (left a l)) (λ a l. refl)
            (rw one at (steps_affine (c * e.parts) d (c * g.shift) g.scale_pos f.run))

        tail : Steps Q τ W (λ a. U (7 + a))
        tail =
            steps_same Q τ fτ (λ a l. omega arith) ends
            (rw two at (steps_affine (d * e.parts) c (d * f.shift) f.scale_pos g.run))
          where
            ends : (a : ℕ) → a < 7 → c * (d * e.value (7 + (7 + a)) + g.shift) + d * f.shift ≡ U (7 + a)
            ends a l = omega (
              arith,
              num c d f.shift g.shift (e.value (7 + (7 + a))) e.scale (x (7 + a)) e.shift (right a l),
            )

    -- The outer part of their canonical matrix is the effect of both lists of steps.
    pub joined : Describes (σ ++ τ) (restrict C)
    joined = record { closed = join_closed; flat = join_flat; sound = join_sound; exact = join_exact }
