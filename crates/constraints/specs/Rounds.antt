-- The steps of k rounds of a table by value, by number.
use Rattle.std.specs.Prelude.{◌≡◌, ℕ, suc, ◌+◌, ◌*◌, ◌%◌, ◌<◌, length, get_or, take, drop}
use Rattle.std.proofs.Common.{ap, subst, ◌∙◌, mod-eq_of_lt, take-append-drop, drop-cons}
use mathlib.Core.List.Memᴰ
use mathlib.Core.List.{List, ◌∷◌, Memᴰ}
use Rattle.std.proofs.Math.Nat.{mul-add-mod_self_right}
use Rattle.table.specs.Step.{Step, step_at, steps_of, Fairs}
use Rattle.table.specs.Steps.{length_steps, steps_at}
use Rattle.table.specs.declared.Table.{Table}
use Rattle.runs.specs.Run.{copies}
use Rattle.runs.specs.Copies.{length_copies, copies_at}

-- k rounds have k times as many steps as the table
pub length_rounds : (t : Table) (k : ℕ) → length (copies (steps_of t) k) ≡ k * t.steps
length_rounds t k = length_copies (steps_of t) k ∙ ap (λ n. k * n) (length_steps t)

-- The step after i steps, when these are r rounds and s steps, is step s of the table.
pub rounds_drop : (t : Table) (k r s i : ℕ) → s < t.steps → i ≡ r * t.steps + s → i < k * t.steps
    → drop i (copies (steps_of t) k) ≡ step_at t s ∷ drop (suc i) (copies (steps_of t) k)
rounds_drop t k r s i l e b =
    let n : length (steps_of t) ≡ t.steps = length_steps t in
    let p : i < k * length (steps_of t) = rw n b in
    let q : i < length (copies (steps_of t) k) = rw (length_rounds t k) b in
    let m : i % length (steps_of t) ≡ s =
    rw (n, e) (mul-add-mod_self_right r t.steps s ∙ mod-eq_of_lt l) in
    drop-cons (copies (steps_of t) k) i (step_at t 0) q
    ∙ ap (λ x. x ∷ drop (suc i) (copies (steps_of t) k))
    (copies_at (steps_of t) k i (step_at t 0) p
    ∙ ap (λ j. get_or (steps_of t) j (step_at t 0)) m ∙ steps_at t s (step_at t 0) l)

-- what is left of fair steps is fair
pub fairs_drop : (i : ℕ) (σ : List Step) → Fairs σ → Fairs (drop i σ)
fairs_drop i σ f s m =
    f s (subst (λ τ. Memᴰ s τ) (take-append-drop i σ) (Memᴰ.append_right (take i σ) m))
