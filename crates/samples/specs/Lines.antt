-- Numbers that grow with the rounds: linear in the round r, from 0, and in the number k of all rounds.
use Rattle.std.specs.Prelude.{◌≡◌, Bool, true, ◌&&◌, ℕ, suc, ◌+◌, ◌*◌, ◌-◌, ◌≤◌, ◌<◌, eqb, leb}
use Rattle.std.proofs.Common.{subst, arith, mul-le-mul_right, eqb-true, leb-true}
use Rattle.samples.specs.Checks.{both}

pub record Line : Type 0 where
  pub base : ℕ
  pub each : ℕ
  pub whole : ℕ

abbrev pub line : ℕ → ℕ → ℕ → Line
line a b c = record { base = a; each = b; whole = c }

-- the number in round r of k
abbrev pub value : ℕ → ℕ → Line → ℕ
value r k l = l.base + l.each * r + l.whole * k

-- a number that does not change
abbrev pub fixed : ℕ → Line
fixed a = line a 0 0

-- one more, a sum, a multiple, and the number in the next round
abbrev pub more : Line → Line
more l = line (suc l.base) l.each l.whole

abbrev pub plus : Line → Line → Line
plus l m = line (l.base + m.base) (l.each + m.each) (l.whole + m.whole)

abbrev pub times : ℕ → Line → Line
times c l = line (c * l.base) (c * l.each) (c * l.whole)

abbrev pub onward : Line → Line
onward l = line (l.base + l.each) l.each l.whole

-- the number of round 0, in every round
abbrev pub initial : Line → Line
initial l = line l.base 0 l.whole

-- l is at most m in every round r of k. For k = r + 1 + j both are linear in r and in j, and it is tested by coefficients.
unfoldable pub at_most : Line → Line → Bool
at_most l m =
    leb (l.base + l.whole) (m.base + m.whole)
    && leb (l.each + l.whole) (m.each + m.whole)
    && leb l.whole m.whole

unfoldable pub same : Line → Line → Bool
same l m = eqb l.base m.base && eqb l.each m.each && eqb l.whole m.whole

-- ---- what they say
at_most_from : (a b c a' b' c' r j : ℕ) → a + c ≤ a' + c' → b + c ≤ b' + c' → c ≤ c'
    → a + b * r + c * (r + 1 + j) ≤ a' + b' * r + c' * (r + 1 + j)
at_most_from a b c a' b' c' r j h i l = omega (arith, mul-le-mul_right r i, mul-le-mul_right j l)

pub at_most_lem : (r k : ℕ) → r < k → (l m : Line) → at_most l m ≡ true → value r k l ≤ value r k m
unfolding at_most
at_most_lem r k b l m e =
    let s : r + 1 + (k - r - 1) ≡ k = omega arith in
    let (h, c) = both e in
    let (p, q) = both h in
    subst (λ n. value r n l ≤ value r n m) s
    (at_most_from l.base l.each l.whole m.base m.each m.whole r (k - r - 1)
    (leb-true _ _ p) (leb-true _ _ q) (leb-true _ _ c))

pub same_value : (r k : ℕ) (l m : Line) → same l m ≡ true → value r k l ≡ value r k m
unfolding same
same_value r k l m e =
    let (h, c) = both e in
    let (p, q) = both h in
    rw (eqb-true l.base m.base p, eqb-true l.each m.each q, eqb-true l.whole m.whole c)

pub next_value : (r k : ℕ) (l : Line) → value r k (onward l) ≡ value (suc r) k l
next_value r k l = omega arith
