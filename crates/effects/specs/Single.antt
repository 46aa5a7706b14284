-- The effect of one step: the canonical matrix of its moves.
use Rattle.std.specs.Prelude.{◌≡◌, refl, [], ◌∷◌, ℕ, ◌+◌, ◌*◌, ◌<◌}
use Rattle.std.proofs.Common.{arith}
use Rattle.table.specs.Step.{Step, Fair, Fairs}
use Rattle.runs.specs.Steps.{Config, Move, Steps, stay, move, move_same, steps_same}
use Rattle.runs.specs.Tools.{every_nil, every_cons}
use Rattle.zones.specs.Matrix.{Matrix}
use Rattle.zones.specs.Closure.{Canonical}
use Rattle.effects.specs.Describes.{past, Describes, NoRun, ends, ends_left, ends_right}

-- The two ends of a move of the step s.
abbrev pub Moves : Step → ℕ → (ℕ → ℕ) → Type 0
Moves s P x = Move P s x (past x)

pub fair_one : {s : Step} → Fair s → Fairs (s ∷ [])
fair_one {s} f = (every_cons Fair s []).1 (f, every_nil Fair)

module _ (s : Step) (f : Fair s) where
  steps_move : (P : ℕ) (u v : Config) → Steps P (s ∷ []) u v → Move P s u v
  steps_move P u v (move m (stay r)) = move_same P s f (λ a l. refl) r m

  -- Their canonical matrix is the effect of the step.
  pub single : {C : Matrix} → Canonical 14 C (Moves s) → Describes (s ∷ []) C
  single c = record {
    closed = c.closed;
    flat = c.flat;
    sound = λ P x p r. (c.is P x p).1 (steps_move P x (past x) r);
    exact = λ P x p h. record {
      scale = 1;
      shift = 0;
      scale_pos = omega arith;
      run = run P x ((c.is P x p).0 h);
    };
  }
    where
      run : (P : ℕ) (x : ℕ → ℕ) → Move P s x (past x)
          → Steps (1 * P) (s ∷ []) (λ a. 1 * x a + 0) (λ a. 1 * x (7 + a) + 0)
      run P x m =
          let e : P ≡ 1 * P = omega arith in
          steps_same (1 * P) (s ∷ []) (fair_one f) (λ a l. omega arith) (λ a l. omega arith)
          (rw e at (move m (stay (λ a l. refl))))

  -- Where there are none, the step has no run.
  pub single_fails : ((P : ℕ) (x : ℕ → ℕ) → 0 < P → ¬ Moves s P x) → NoRun (s ∷ [])
  single_fails n P u v p r =
      n P (ends u v) p (move_same P s f (ends_left u v) (ends_right u v) (steps_move P u v r))
