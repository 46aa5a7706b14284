-- Bounds as single numbers, as a program holds them: their order, their sum, and the range in which no sum overflows.
use Rattle.std.specs.Prelude.{◌≡◌, refl, ◌≢◌, ℕ, ◌+◌, ◌*◌, ◌-◌, ◌%◌, ◌^◌, ◌≤◌, ◌<◌, max}
use Rattle.std.proofs.Common.{arith}
use Rattle.std.proofs.Math.Decide.{ℕ_discrete}
use Rattle.basics.specs.Choice.{choose, choose_yes, choose_no, choose_cases}
use Rattle.zones.specs.Bound.{Bound, none, some, half, sum, ◌⊑◌, ◌⊕◌, weak_zero}
use Rattle.zones.specs.Weight.{Within}

-- d ticks are the code 2 * (d + BIAS), and one more where the bound is weak.
abbrev pub BIAS : ℕ
BIAS = 2 ^ 58

-- The code of no bound.
abbrev pub NONE : ℕ
NONE = 2 ^ 62

-- The code of the weak zero.
abbrev pub ZERO : ℕ
ZERO = 2 * BIAS + 1

-- The bound that a code stands for.
unfoldable pub bound : ℕ → Bound
bound e = choose (ℕ_discrete e NONE) none (some e BIAS)

-- The code of a bound.
unfoldable pub code : Bound → ℕ
code none = NONE
code (some e z) = e + 2 * BIAS - 2 * z

-- The code of the sum of two bounds.
unfoldable pub sum_of : ℕ → ℕ → ℕ
sum_of e f = choose (ℕ_discrete e NONE) NONE (choose (ℕ_discrete f NONE) NONE (e + f - 2 * BIAS - max (e % 2) (f % 2)))

-- The ticks of a code lie between -D and D.
pub record Near (D e : ℕ) : Type 0 where
  pub low : BIAS ≤ half e + D
  pub high : half e ≤ BIAS + D

-- A code in range: it is none, or near.
abbrev pub Coded : ℕ → ℕ → Type 0
Coded D e = e ≢ NONE → Near D e

-- The code r stands for the sum of the bounds of e and f, and is a code of the program.
pub record Sums (e f r : ℕ) : Type 0 where
  pub under : bound r ⊑ bound e ⊕ bound f
  pub over : bound e ⊕ bound f ⊑ bound r
  pub top : r ≤ NONE

-- ---- Codes and bounds

pub bound_some : (e : ℕ) → e ≢ NONE → bound e ≡ some e BIAS
unfolding bound
bound_some e n = choose_no (ℕ_discrete e NONE) none (some e BIAS) n

pub bound_none : (e : ℕ) → e ≡ NONE → bound e ≡ none
unfolding bound
bound_none e p = choose_yes (ℕ_discrete e NONE) none (some e BIAS) p

-- Smaller codes are tighter bounds.
pub bound_mono : (e f : ℕ) → e ≤ f → f ≤ NONE → bound e ⊑ bound f
bound_mono e f p q = go (ℕ_discrete e NONE) (ℕ_discrete f NONE)
  where
    go : Dec (e ≡ NONE) → Dec (f ≡ NONE) → bound e ⊑ bound f
    go d (yes h) = rw (bound_none f h) (record { le = tt })
    go (yes g) (no h) = absurd (h (omega arith))
    go (no g) (no h) = rw (bound_some e g, bound_some f h) (record { le = omega arith })

-- The test against the weak zero, on codes,
pub zero_bound : (e : ℕ) → e ≤ NONE → ZERO ≤ e → weak_zero ⊑ bound e
zero_bound e t h = go (ℕ_discrete e NONE)
  where
    go : Dec (e ≡ NONE) → weak_zero ⊑ bound e
    go (yes n) = rw (bound_none e n) (record { le = tt })
    go (no n) = rw (bound_some e n) (record { le = omega arith })

-- and back.
pub bound_zero : (e : ℕ) → weak_zero ⊑ bound e → ZERO ≤ e
bound_zero e h = go (ℕ_discrete e NONE)
  where
    go : Dec (e ≡ NONE) → ZERO ≤ e
    go (yes n) = omega arith
    go (no n) = let q : weak_zero ⊑ some e BIAS = rw (bound_some e n) at h in omega (arith, q.le)

-- ---- Ranges

-- No code in range lies above that of none.
pub coded_top : (D e : ℕ) → D ≤ BIAS → Coded D e → e ≤ NONE
coded_top D e d c = go (ℕ_discrete e NONE)
  where
    go : Dec (e ≡ NONE) → e ≤ NONE
    go (yes h) = omega arith
    go (no n) = omega (arith, c n)

pub coded_wider : (D G e : ℕ) → D ≤ G → Coded D e → Coded G e
coded_wider D G e d c n = let k : Near D e = c n in record { low = omega arith; high = omega arith }

-- A code is in range where its bound is.
pub within_coded : (D e : ℕ) → Within D (bound e) → Coded D e
within_coded D e w n =
    let r : Within D (some e BIAS) = rw (bound_some e n) at w in
    record { low = r.spans.0; high = r.spans.1 }

pub coded_within : (D e : ℕ) → Coded D e → Within D (bound e)
coded_within D e c = go (ℕ_discrete e NONE)
  where
    go : Dec (e ≡ NONE) → Within D (bound e)
    go (yes h) = rw (bound_none e h) (record { spans = tt })
    go (no n) = rw (bound_some e n) (record { spans = ((c n).low, (c n).high) })

-- The code of a bound in range is in range and stands for that bound.
module _ (D : ℕ) (small : D ≤ BIAS) where
  code_some : (e z : ℕ) → Within D (some e z) → e + 2 * BIAS - 2 * z ≢ NONE
  code_some e z w = omega (arith, w.spans)

  pub code_under : (a : Bound) → Within D a → bound (code a) ⊑ a
  unfolding code
  code_under none w = record { le = tt }
  code_under (some e z) w = rw (bound_some _ (code_some e z w)) (record { le = omega (arith, w.spans) })

  pub code_over : (a : Bound) → Within D a → a ⊑ bound (code a)
  unfolding code
  code_over none w = rw (bound_none NONE refl) (record { le = tt })
  code_over (some e z) w = rw (bound_some _ (code_some e z w)) (record { le = omega (arith, w.spans) })

  pub code_coded : (a : Bound) → Within D a → Coded D (code a)
  unfolding code
  code_coded none w n = absurd (n refl)
  code_coded (some e z) w n = record { low = omega (arith, w.spans); high = omega (arith, w.spans) }

-- ---- The sum

none_sums : (e f : ℕ) → bound e ⊕ bound f ≡ none → Sums e f NONE
none_sums e f q = record {
  under = rw q (record { le = tt });
  over = rw (bound_none NONE refl) (record { le = tt });
  top = omega arith;
}

some_sums : (e f r : ℕ) → e ≢ NONE → f ≢ NONE → r < NONE → r + 2 * BIAS ≡ sum e f → Sums e f r
some_sums e f r h k t q = record {
  under = rw (bound_some r (omega arith), bound_some e h, bound_some f k) (record { le = omega arith });
  over = rw (bound_some r (omega arith), bound_some e h, bound_some f k) (record { le = omega arith });
  top = omega arith;
}

-- In range, the sum of codes is the code of the sum.
pub sums : (D e f : ℕ) → 2 * D ≤ BIAS → Coded D e → Coded D f → Sums e f (sum_of e f)
unfolding sum_of
sums D e f small p q =
    choose_cases (Sums e f) (ℕ_discrete e NONE) NONE _ (λ h. none_sums e f (rw (bound_none e h) refl))
    (λ h. choose_cases (Sums e f) (ℕ_discrete f NONE) NONE _
    (λ k. none_sums e f (rw (bound_some e h, bound_none f k) refl))
    (λ k. some_sums e f _ h k (small_sum (p h) (q k)) (biased_sum (p h) (q k))))
  where
    biased_sum : Near D e → Near D f → e + f - 2 * BIAS - max (e % 2) (f % 2) + 2 * BIAS ≡ sum e f
    biased_sum m n = omega arith

    small_sum : Near D e → Near D f → e + f - 2 * BIAS - max (e % 2) (f % 2) < NONE
    small_sum m n = omega arith
