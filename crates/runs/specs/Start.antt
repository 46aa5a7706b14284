-- The variants of the start: their demands bound the starting readings from above, and all readings 0 meet them.
use Rattle.std.specs.Prelude.{◌≡◌, refl, false, ℕ, zero, suc, ◌+◌, ◌*◌, ◌≤◌, ◌<◌}
use mathlib.Core.List.Memᴰ
use mathlib.Core.List.{List, [], ◌∷◌, Memᴰ}
use Rattle.std.proofs.Common.{arith}
use Rattle.runs.specs.declared.Demand.{Demand}
use Rattle.runs.specs.declared.Start.{Start}
use Rattle.runs.specs.declared.Start.TheVariants.{LogIn, MidShift}
use Rattle.runs.specs.Demand.{plus, Starts, any_starts, zero_starts, starts_of, Suits, Allowed, Places}
use Rattle.runs.specs.Allowed.{any_allowed}
use Rattle.runs.specs.DemandRange.{Proper, plus_proper, any_proper}
use Rattle.runs.specs.Tools.{Every, every_nil, every_cons}

-- The demands of D for clocks 1 to n have small bounds and end at the start, so that they bound the readings from above; and readings
-- of 0 meet them.
pub record Upper (n : ℕ) (D : Starts) : Type 0 where
  pub proper : (j : ℕ) → 0 < j → j ≤ n → Every (Proper n) (D j)
  pub ends : (j : ℕ) → 0 < j → j ≤ n → (d : Demand) → Memᴰ d (D j) → d.to ≡ 0
  pub begins : (j : ℕ) → 0 < j → j ≤ n → (d : Demand) → Memᴰ d (D j) → 0 < d.from
  pub zero : (P : ℕ) → Allowed P D n (λ j. 0)

module _ (n : ℕ) (D : Starts) (u : Upper n D) where
  pub upper_places : Places n D
  upper_places j p l d m = ((u.proper j p l d m).from, (u.proper j p l d m).to)

-- ---- each variant is such

any_upper : (n : ℕ) → Upper n any_starts
unfolding any_starts
any_upper n = record {
  proper = λ j p l. any_proper n j;
  ends = λ j p l d m. absurd (Memᴰ.not-nil m);
  begins = λ j p l d m. absurd (Memᴰ.not-nil m);
  zero = λ P. any_allowed P n (λ j. 0);
}

-- what holds of the one demand holds of all
zero_each : (G : Demand → Type 0) (j : ℕ) → G (plus j 0 0 false) → Every G (zero_starts j)
unfolding zero_starts
zero_each G j h = (every_cons G (plus j 0 0 false) []).1 (h, every_nil G)

zero_suits : (P j : ℕ) → Suits P (λ i. 0) (plus j 0 0 false)
zero_suits P zero = omega arith
zero_suits P (suc j) = omega arith

zero_upper : (n : ℕ) → Upper n zero_starts
zero_upper n = record {
  proper = λ j p l. zero_each (Proper n) j (plus_proper n j 0 0 false l (omega arith) (omega arith));
  ends = λ j p l. zero_each (λ d. d.to ≡ 0) j refl;
  begins = λ j p l. zero_each (λ d. 0 < d.from) j p;
  zero = λ P. record { allowed = λ j p l. zero_each (Suits P (λ i. 0)) j (zero_suits P j) };
}

pub start_upper : (v : Start) (n : ℕ) → Upper n (starts_of v)
start_upper LogIn n = zero_upper n
start_upper MidShift n = any_upper n

-- From log-in, all starting readings are 0.
pub log_in_zero : (P n : ℕ) (s : ℕ → ℕ) → Allowed P (starts_of LogIn) n s → (j : ℕ) → 0 < j → j ≤ n → s j ≡ 0
unfolding zero_starts
log_in_zero P n s a zero p l = absurd (omega arith)
log_in_zero P n s a (suc j) p l =
    let h = a.allowed (suc j) p l (plus (suc j) 0 0 false) (Memᴰ.head refl) in omega (arith, h)
