-- Every list of steps has an effect, or no run.
use Rattle.std.specs.Prelude.{◌≡◌, ◌⊎◌, ◌↔◌, List, [], ◌∷◌, ◌++◌, ℕ, ◌+◌, ◌-◌, ◌≤◌, ◌<◌, length}
use Rattle.std.proofs.Common.{inl, inr, arith}
use Rattle.std.proofs.Math.Decide.{dec_le, dec_lt}
use Rattle.table.specs.Step.{Step, Fair, Fairs}
use Rattle.runs.specs.Steps.{fairs_head, fairs_tail, steps_split}
use Rattle.basics.specs.Choice.{both}
use Rattle.zones.specs.Bound.{Sat}
use Rattle.zones.specs.Matrix.{Matrix, Solves, Solution, Flat}
use Rattle.zones.specs.Closure.{Closure, closing, closure_canonical, canonical_for}
use Rattle.effects.specs.Describes.{Describes, NoRun}
use Rattle.effects.specs.Tightened.{free, tightened, free_flat, free_solves, tightened_flat, tightened_is}
use Rattle.effects.specs.Demands.{matrix_of, matrix_flat}
use Rattle.effects.specs.Single.{fair_one, Moves, single, single_fails}
use Rattle.effects.specs.StepDemands.{step_demands, raw_is}
use Rattle.effects.specs.Outer.{restrict}
use Rattle.effects.specs.Join.{Both, joined, join_fails}

-- An effect of σ.
abbrev pub Effect : List Step → Type 0
Effect σ = (M : Matrix) × Describes σ M

-- ---- Two effects as one matrix of twenty-one vertices

-- The first fourteen vertices, and the last fourteen.
abbrev Early : ℕ → ℕ → Type 0
Early a b = (a < 14) × (b < 14)

abbrev Late : ℕ → ℕ → Type 0
Late a b = (7 ≤ a) × (7 ≤ b)

early? : (a b : ℕ) → Dec (Early a b)
early? a b = both (dec_lt a 14) (dec_lt b 14)

late? : (a b : ℕ) → Dec (Late a b)
late? a b = both (dec_le 7 a) (dec_le 7 b)

module _ (A B : Matrix) where
  -- A on the first, and then B on the last.
  left : Matrix
  left = tightened Early early? A free

  glue : Matrix
  glue = tightened Late late? (λ a b. B (a - 7) (b - 7)) left

  glue_is : (P : ℕ) (x : ℕ → ℕ) → 0 < P → Solves 21 P glue x ↔ Both A B P x
  unfolding glue left
  glue_is P x p = (out, into)
    where
      first : Solves 21 P left x
          ↔ (Solves 21 P free x × ((a b : ℕ) → a < 21 → b < 21 → Early a b → Sat P (A a b) (x a) (x b)))
      first = tightened_is Early early? A free 21 P x p

      second : Solves 21 P glue x
          ↔ (Solves 21 P left x × ((a b : ℕ) → a < 21 → b < 21 → Late a b → Sat P (B (a - 7) (b - 7)) (x a) (x b)))
      second = tightened_is Late late? (λ a b. B (a - 7) (b - 7)) left 21 P x p

      out : Solves 21 P glue x → Both A B P x
      out s = (
        (λ a b ha hb. (first.0 (second.0 s).0).1 a b (omega arith) (omega arith) (ha, hb)),
        λ a b ha hb.
            let e : 7 + a - 7 ≡ a = omega arith in
            let f : 7 + b - 7 ≡ b = omega arith in
            rw (e, f) at ((second.0 s).1 (7 + a) (7 + b) (omega arith) (omega arith) (omega arith, omega arith)),
      )

      into : Both A B P x → Solves 21 P glue x
      into (s, t) = second.1 (
        first.1 (free_solves 21 P x, λ a b ha hb h. s a b h.0 h.1),
        λ a b ha hb h.
            let e : 7 + (a - 7) ≡ a = omega arith in
            let f : 7 + (b - 7) ≡ b = omega arith in
            rw (e, f) at (t (a - 7) (b - 7) (omega arith) (omega arith)),
      )

  glue_flat : Flat 21 glue
  unfolding glue left
  glue_flat = tightened_flat Late late? _ left 21 (tightened_flat Early early? A free 21 (free_flat 21))

-- ---- The effect of two lists of steps, of one step, of every list

-- The effects of two lists of steps make one of both, or both together have no run.
pub combine : (σ τ : List Step) → Fairs σ → Fairs τ → Effect σ → Effect τ → Effect (σ ++ τ) ⊎ NoRun (σ ++ τ)
combine σ τ f g (A, dA) (B, dB) = go (closing 21 (glue A B))
  where
    go : ((C : Matrix) × Closure 21 (glue A B) C) ⊎ (¬ Solution 21 (glue A B)) → Effect (σ ++ τ) ⊎ NoRun (σ ++ τ)
    go (inl (C, c)) =
        inl (
          restrict C,
          joined σ τ A B f g dA dB C
              (canonical_for (Both A B) (closure_canonical c (glue_flat A B)) (glue_is A B)),
        )
    go (inr n) = inr (join_fails σ τ A B f g dA dB (λ P x p s. n (P, p, (x, (glue_is A B P x p).1 s))))

-- A step has an effect, or no run.
step_effect : (s : Step) → Fair s → Effect (s ∷ []) ⊎ NoRun (s ∷ [])
step_effect s f = go (closing 14 (matrix_of (step_demands 7 s)))
  where
    go : ((C : Matrix) × Closure 14 (matrix_of (step_demands 7 s)) C) ⊎ (¬ Solution 14 (matrix_of (step_demands 7 s)))
        → Effect (s ∷ []) ⊎ NoRun (s ∷ [])
    go (inl (C, c)) =
        inl (C, single s f (canonical_for (Moves s) (closure_canonical c (matrix_flat 14 (step_demands 7 s))) (raw_is s f)))
    go (inr n) = inr (single_fails s f (λ P x p m. n (P, p, (x, (raw_is s f P x p).1 m))))

-- A list of one step or more has an effect, or no run.
pub effect : (τ : List Step) → Fairs τ → 0 < length τ → Effect τ ⊎ NoRun τ
effect [] f l = absurd (omega arith)
effect (s ∷ []) f l = step_effect s (fairs_head f)
effect (s ∷ (t ∷ σ)) f l = go (step_effect s (fairs_head f)) (effect (t ∷ σ) (fairs_tail f) (omega arith))
  where
    go : Effect (s ∷ []) ⊎ NoRun (s ∷ []) → Effect (t ∷ σ) ⊎ NoRun (t ∷ σ)
        → Effect (s ∷ (t ∷ σ)) ⊎ NoRun (s ∷ (t ∷ σ))
    go (inl a) (inl b) =
        combine (s ∷ []) (t ∷ σ) (fair_one (fairs_head f)) (fairs_tail f) a b
    go (inr n) b = inr (λ P u v p r. let h = steps_split P (s ∷ []) (t ∷ σ) r in n P u h.0 p h.1)
    go (inl a) (inr n) = inr (λ P u v p r. let h = steps_split P (s ∷ []) (t ∷ σ) r in n P h.0 v p h.2)
