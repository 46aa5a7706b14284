-- Choosing by a decision.
use Rattle.std.specs.Prelude.{◌≡◌, refl, ◌⊎◌, ℕ, ◌≤◌, ◌<◌, min}
use Rattle.std.proofs.Common.{inl, inr, ⊎_elim, arith}
use Rattle.std.proofs.Math.Decide.{dec_le}

-- The first value where the decision is yes, the second where it is no.
unfoldable pub choose : {A B : Type 0} → Dec A → B → B → B
choose (yes h) t f = t
choose (no h) t f = f

-- Which of the two it is, where that is known.
pub choose_yes : {A B : Type 0} (d : Dec A) (t f : B) → A → choose d t f ≡ t
unfolding choose
choose_yes (yes h) t f a = refl
choose_yes (no h) t f a = absurd (h a)

pub choose_no : {A B : Type 0} (d : Dec A) (t f : B) → ¬ A → choose d t f ≡ f
unfolding choose
choose_no (yes h) t f n = absurd (n h)
choose_no (no h) t f n = refl

-- What holds of both values, each under its own decision, holds of the one chosen.
pub choose_cases : {A B : Type 0} (Q : B → Type 0) (d : Dec A) (t f : B) → (A → Q t) → (¬ A → Q f) → Q (choose d t f)
unfolding choose
choose_cases Q (yes h) t f p q = p h
choose_cases Q (no h) t f p q = q h

-- The smaller of two numbers is one of them.
pub min_is : (a b : ℕ) → (min a b ≡ a) ⊎ (min a b ≡ b)
min_is a b = go (dec_le a b)
  where
    go : Dec (a ≤ b) → (min a b ≡ a) ⊎ (min a b ≡ b)
    go (yes h) = inl (omega arith)
    go (no h) = inr (omega arith)

-- What holds of both numbers holds of the smaller one.
pub min_cases : (Q : ℕ → Type 0) (a b : ℕ) → Q a → Q b → Q (min a b)
min_cases Q a b p q = ⊎_elim (λ e. rw e p) (λ e. rw e q) (min_is a b)

-- Decisions of two facts decide whether one holds, and whether both do.
pub either : {A B : Type 0} → Dec A → Dec B → Dec (A ⊎ B)
either (yes a) d = yes (inl a)
either (no n) (yes b) = yes (inr b)
either (no n) (no k) = no (⊎_elim n k)

pub both : {A B : Type 0} → Dec A → Dec B → Dec (A × B)
both (yes a) (yes b) = yes (a, b)
both (yes a) (no k) = no (λ h. k h.1)
both (no n) d = no (λ h. n h.0)

pub not_below_zero : (n : ℕ) → n < 0 → ⊥
not_below_zero n h = omega arith
