-- A matrix made of another by tightening some of its entries: its solutions are those that keep the new bounds too.
use Rattle.std.specs.Prelude.{refl, ◌↔◌, ℕ, ◌<◌}
use Rattle.std.proofs.Common.{arith}
use Rattle.std.proofs.Math.Decide.{ℕ_discrete}
use Rattle.basics.specs.Choice.{choose, choose_yes, choose_cases}
use Rattle.zones.specs.Bound.{none, weak_zero, Sat, ◌⊑◌, ⊑_refl, ⊑_trans, least, least_is}
use Rattle.zones.specs.Values.{sat_mono, sat_least}
use Rattle.zones.specs.Matrix.{Matrix, Solves, Flat}

-- No bounds, but that a value is at most itself.
pub free : Matrix
free a b = choose (ℕ_discrete a b) weak_zero none

-- M, tightened by the entries of B at the places that are decided to be in S.
pub tightened : (S : ℕ → ℕ → Type 0) → ((a b : ℕ) → Dec (S a b)) → Matrix → Matrix → Matrix
tightened S dec B M a b = choose (dec a b) (least (M a b) (B a b)) (M a b)

-- ---- No bounds

pub free_flat : (N : ℕ) → Flat N free
unfolding free
free_flat N a h = rw (choose_yes (ℕ_discrete a a) weak_zero none refl) (⊑_refl weak_zero)

pub free_solves : (N P : ℕ) (x : ℕ → ℕ) → Solves N P free x
unfolding free
free_solves N P x a b ha hb =
    choose_cases (λ e. Sat P e (x a) (x b)) (ℕ_discrete a b) weak_zero none
    (λ e. rw e (record { holds = omega arith })) (λ e. record { holds = tt })

-- ---- Some bounds tightened

module _ (S : ℕ → ℕ → Type 0) (dec : (a b : ℕ) → Dec (S a b)) (B M : Matrix) where
  tightened_low : (a b : ℕ) → tightened S dec B M a b ⊑ M a b
  unfolding tightened
  tightened_low a b =
      choose_cases (λ e. e ⊑ M a b) (dec a b) _ _ (λ h. (least_is (M a b) (B a b)).0) (λ h. ⊑_refl (M a b))

  tightened_at : (a b : ℕ) → S a b → tightened S dec B M a b ⊑ B a b
  unfolding tightened
  tightened_at a b h = rw (choose_yes (dec a b) (least (M a b) (B a b)) (M a b) h) (least_is (M a b) (B a b)).1

  pub tightened_flat : (N : ℕ) → Flat N M → Flat N (tightened S dec B M)
  tightened_flat N f a h = ⊑_trans (tightened_low a a) (f a h)

  pub tightened_is : (N P : ℕ) (x : ℕ → ℕ) → 0 < P → Solves N P (tightened S dec B M) x
      ↔ (Solves N P M x × ((a b : ℕ) → a < N → b < N → S a b → Sat P (B a b) (x a) (x b)))
  tightened_is N P x p = (out, into)
    where
      out : Solves N P (tightened S dec B M) x
          → Solves N P M x × ((a b : ℕ) → a < N → b < N → S a b → Sat P (B a b) (x a) (x b))
      out s = (
        (λ a b ha hb. sat_mono P (x a) (x b) p (tightened_low a b) (s a b ha hb)),
        λ a b ha hb h. sat_mono P (x a) (x b) p (tightened_at a b h) (s a b ha hb),
      )

      into : Solves N P M x × ((a b : ℕ) → a < N → b < N → S a b → Sat P (B a b) (x a) (x b))
          → Solves N P (tightened S dec B M) x
      into s a b ha hb = unfold tightened in
          choose_cases (λ e. Sat P e (x a) (x b)) (dec a b) (least (M a b) (B a b)) (M a b)
          (λ h. sat_least P (x a) (x b) (M a b) (B a b) p (s.0 a b ha hb) (s.1 a b ha hb h)) (λ h. s.0 a b ha hb)
