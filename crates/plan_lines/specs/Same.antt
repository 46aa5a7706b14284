-- The lines of equal plans.
use Rattle.std.specs.Prelude.{◌≡◌, refl, List, ◌++◌, ℕ, zero, suc, ◌+◌, ◌/◌, ◌%◌, ◌≤◌, ◌<◌}
use Rattle.std.proofs.Common.{◌∙◌, ap, arith}
use Rattle.plan_lines.specs.PlanLines.{parts_line, start_line, step_line, start_lines, step_lines, plan_lines}

-- two sequences are the same from place 1 to n
abbrev pub SameTo : ℕ → (ℕ → ℕ) → (ℕ → ℕ) → Type 0
SameTo n s r = (j : ℕ) → 0 < j → j ≤ n → s j ≡ r j

starts_same : (s r : ℕ → ℕ) (n : ℕ) → SameTo n s r → start_lines s n ≡ start_lines r n
unfolding start_lines
starts_same s r zero e = refl
starts_same s r (suc n) e =
    ap (λ (x : List ℕ). x ++ start_line (suc n) (s (suc n))) (starts_same s r n (λ j p l. e j p (omega arith)))
    ∙ ap (λ (x : ℕ). start_lines r n ++ start_line (suc n) x) (e (suc n) (omega arith) (omega arith))

steps_same : (L : ℕ) (t u : ℕ → ℕ) (m : ℕ) → SameTo m t u → step_lines L t m ≡ step_lines L u m
unfolding step_lines
steps_same L t u zero e = refl
steps_same L t u (suc m) e =
    ap (λ (x : List ℕ). x ++ step_line (m / L + 1) (m % L + 1) (t (suc m))) (steps_same L t u m (λ i p l. e i p (omega arith)))
    ∙ ap (λ (x : ℕ). step_lines L u m ++ step_line (m / L + 1) (m % L + 1) x) (e (suc m) (omega arith) (omega arith))

pub plan_lines_same : (P n L m : ℕ) (t u s r : ℕ → ℕ) → SameTo m t u → SameTo n s r
    → plan_lines P n L m t s ≡ plan_lines P n L m u r
unfolding plan_lines
plan_lines_same P n L m t u s r e f =
    ap (λ (x : List ℕ). parts_line P ++ x ++ step_lines L t m) (starts_same s r n f)
    ∙ ap (λ (x : List ℕ). parts_line P ++ start_lines r n ++ x) (steps_same L t u m e)
