-- Laws of allowed starts.
use Rattle.std.specs.Prelude.{◌≡◌, refl, ◌⊎◌, ◌↔◌, Bool, true, false, ℕ, zero, suc, ◌+◌, ◌*◌, ◌≤◌, ◌<◌, min}
use Rattle.std.proofs.Common.{ap, sym, ◌∙◌, inl, inr, arith, mul-le-mul_right}
use mathlib.Core.List.Memᴰ
use mathlib.Core.List.{Memᴰ}
use Rattle.std.proofs.Math.Decide.{dec_le}
use Rattle.runs.specs.declared.Demand.{Demand}
use Rattle.runs.specs.Demand.{Within, Holds, Starts, any_starts, back, Suits, Allowed, Places}
use Rattle.runs.specs.Tools.{Every}

-- ---- any starting readings are allowed
pub any_allowed : (P n : ℕ) (s : ℕ → ℕ) → Allowed P any_starts n s
unfolding any_starts
any_allowed P n s = record { allowed = λ j p l d m. absurd (Memᴰ.not-nil m) }

-- ---- as times
-- the times y of places 0 to n agree with the starting readings s
abbrev pub Agrees : ℕ → (ℕ → ℕ) → (ℕ → ℕ) → Type 0
Agrees n s y = (a : ℕ) → a ≤ n → y a + back s a ≡ y 0

within_shift : (b : Bool) (p q u v f g o : ℕ) → u + f ≡ o → v + g ≡ o
    → Within b (f + p) (g + q) ↔ Within b (v + p) (u + q)
within_shift true p q u v f g o c d = ((λ h. omega arith), λ h. omega arith)
within_shift false p q u v f g o c d = ((λ h. omega arith), λ h. omega arith)

suits_holds : (P n : ℕ) (s y : ℕ → ℕ) (d : Demand) → Agrees n s y → (d.from ≤ n) × (d.to ≤ n)
    → Suits P s d ↔ Holds P y d
suits_holds P n s y d h l = ((λ k. record { holds = same.0 k }), λ k. same.1 k.holds)
  where
    same : Suits P s d ↔ Within d.strict (y d.to + d.down * P) (y d.from + d.up * P)
    same =
        within_shift d.strict (d.down * P) (d.up * P)
        (y d.from) (y d.to) (back s d.from) (back s d.to) (y 0)
        (h d.from l.0) (h d.to l.1)

-- Starting readings are allowed if and only if the demands on them hold of such times.
pub allowed_holds : (P n : ℕ) (D : Starts) (s y : ℕ → ℕ) → Places n D → Agrees n s y
    → Allowed P D n s ↔ ((j : ℕ) → 0 < j → j ≤ n → Every (Holds P y) (D j))
allowed_holds P n D s y f h = (
  (λ k j p l d m. (suits_holds P n s y d h (f j p l d m)).0 (k.allowed j p l d m)),
  λ k. record { allowed = λ j p l d m. (suits_holds P n s y d h (f j p l d m)).1 (k j p l d m) },
)
