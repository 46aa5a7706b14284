-- What is known of a count of rounds while it is searched for by doubling.
use Rattle.std.specs.Prelude.{◌≡◌, ◌↔◌, List, [], ℕ, suc, ◌+◌, ◌^◌, ◌≤◌}
use Rattle.std.proofs.Common.{sym, subst}
use native.Mathlib.Omega.{arith, by_contra}
use Rattle.std.proofs.Math.Nat.{pow-succ'}
use Rattle.table.specs.Step.{Step}
use Rattle.runs.specs.Run.{copies}
use Rattle.runs.specs.Copies.{copies_zero, copies_one}
use Rattle.zones.specs.Matrix.{Matrix}
use Rattle.effects.specs.Describes.{Describes}
use Rattle.effects.specs.Begins.{Begins, fewer}

-- The effect of the table is that of one round.
pub rounds_one : {τ : List Step} {M : Matrix} → Describes τ M → Describes (copies τ 1) M
rounds_one {τ} {M} d = subst (λ (σ : List Step). Describes σ M) (sym (copies_one τ)) d

-- From the starts that D allows, c rounds run, and c + 2 ^ i do not.
pub record Known (D : Matrix) (τ : List Step) (i c : ℕ) : Type 0 where
  pub runs : Begins D (copies τ c)
  pub stops : ¬ Begins D (copies τ (c + 2 ^ i))

-- Twice 2 ^ i.
pub twice : (i : ℕ) → 2 ^ i + 2 ^ i ≡ 2 ^ suc i
twice i = omega (arith, pow-succ' 2 i)

module _ (D : Matrix) (τ : List Step) where
  -- Not one round runs.
  pub known_none : Begins D [] → ¬ Begins D τ → Known D τ 0 0
  known_none r n = record {
    runs = subst (Begins D) (sym (copies_zero τ)) r;
    stops = λ q. n (subst (Begins D) (copies_one τ) q);
  }

  -- 2 ^ i rounds run, and twice as many do not.
  pub known_top : (i : ℕ) → Begins D (copies τ (2 ^ i)) → ¬ Begins D (copies τ (2 ^ i + 2 ^ i))
      → Known D τ i (2 ^ i)
  known_top i r n = record { runs = r; stops = n }

  -- 2 ^ i rounds more run,
  pub known_more : (i c : ℕ) → Known D τ (suc i) c → Begins D (copies τ (c + 2 ^ i)) → Known D τ i (c + 2 ^ i)
  known_more i c n r = record { runs = r; stops = λ q. n.stops (subst (λ j. Begins D (copies τ j)) same q) }
    where
      same : c + 2 ^ i + 2 ^ i ≡ c + 2 ^ suc i
      same = omega (arith, twice i)

  -- or they do not.
  pub known_same : (i c : ℕ) → Known D τ (suc i) c → ¬ Begins D (copies τ (c + 2 ^ i)) → Known D τ i c
  known_same i c n r = record { runs = n.runs; stops = r }

  -- Where c + 1 rounds do not run, c is the count.
  pub known_count : (c : ℕ) → Known D τ 0 c → (k : ℕ) → Begins D (copies τ k) ↔ (k ≤ c)
  known_count c n k = (
    (λ r. by_contra k c (λ l. n.stops (fewer D τ (c + 2 ^ 0) k (omega arith) r))),
    λ l. fewer D τ k c l n.runs,
  )
