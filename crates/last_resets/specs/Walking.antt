-- Walking the rounds by the number of the step in its round, forwards and backwards.
use Rattle.std.specs.Prelude.{◌≡◌, cond, ℕ, zero, suc, ◌+◌, ◌*◌, ◌-◌, ◌%◌, ◌<◌, eqb}
use Rattle.std.proofs.Common.{ap, sym, ◌∙◌, add-one, arith, mod-lt, mod-eq_of_lt, eq-eqb, ne_eqb}
use Rattle.std.proofs.Math.Decide.{dec_lt}
use Rattle.std.proofs.Math.Nat.{mod_self, suc-mod, mul-add-mod_self_right}
use Rattle.constraints.specs.Pieces.{following_of, following_round, following_on}

-- the step before step s, when a round has L steps
abbrev pub preceding_of : ℕ → ℕ → ℕ
preceding_of s L = cond (eqb s 0) (L - 1) (s - 1)

pub preceding_round : (s L : ℕ) → s ≡ 0 → preceding_of s L ≡ L - 1
preceding_round s L e = ap (λ b. cond b (L - 1) (s - 1)) (eq-eqb s 0 e)

pub preceding_on : (s L : ℕ) → (s ≡ 0 → ⊥) → preceding_of s L ≡ s - 1
preceding_on s L e = ap (λ b. cond b (L - 1) (s - 1)) (ne_eqb s 0 e)

-- one step more
pub following_mod : (i L : ℕ) → 0 < L → following_of (i % L) L ≡ suc i % L
following_mod i L p = go (dec_lt (suc (i % L)) L)
  where
    go : Dec (suc (i % L) < L) → following_of (i % L) L ≡ suc i % L
    go (yes l) =
        following_on (i % L) L (λ e. omega arith) ∙ add-one (i % L) ∙ sym (suc-mod i L ∙ mod-eq_of_lt l)
    go (no l) =
        let e : suc (i % L) ≡ L = omega (arith, mod-lt i p) in
        following_round (i % L) L (omega arith) ∙ sym (suc-mod i L ∙ ap (λ n. n % L) e ∙ mod_self L)

pub step_on : (i s r L : ℕ) → 0 < L → s ≡ i % L → r ≡ following_of s L → r ≡ (i + 1) % L
step_on i s r L p e f = f ∙ ap (λ n. following_of n L) e ∙ following_mod i L p ∙ ap (λ n. n % L) (sym (add-one i))

-- and one step less
pub preceding_mod : (i L : ℕ) → 0 < L → preceding_of (suc i % L) L ≡ i % L
preceding_mod i L p = go (dec_lt (suc (i % L)) L)
  where
    go : Dec (suc (i % L) < L) → preceding_of (suc i % L) L ≡ i % L
    go (yes l) =
        let f : suc i % L ≡ suc (i % L) = suc-mod i L ∙ mod-eq_of_lt l in
        preceding_on (suc i % L) L (λ z. omega arith) ∙ omega arith
    go (no l) =
        let e : suc (i % L) ≡ L = omega (arith, mod-lt i p) in
        preceding_round (suc i % L) L (suc-mod i L ∙ ap (λ n. n % L) e ∙ mod_self L) ∙ omega arith

-- the last step of k rounds is the last of the table
pub last_step : (k L : ℕ) → 0 < L → 0 < k → (k * L - 1) % L ≡ L - 1
last_step zero L p q = absurd (omega arith)
last_step (suc k) L p q =
    let e : suc k * L - 1 ≡ k * L + (L - 1) = omega arith in
    ap (λ n. n % L) e ∙ mul-add-mod_self_right k L (L - 1) ∙ mod-eq_of_lt (omega arith)
