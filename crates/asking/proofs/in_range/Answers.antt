-- The product does not wrap, since more than 1024 rounds or steps are refused before it.
use mathlib.Core.Path.{◌≡◌, sym, ◌∙◌}
use mathlib.Core.Bool.{true}
use Prim.Native.Nat.{ℕ, ◌*◌, ◌≤◌, ◌<◌, ◌^◌}
use native.Mathlib.Nat.{mul-le-mul_right, mul-le-mul_left}
use native.Mathlib.Omega.{arith}
use lib.Dec.{leb}
use borrow.Author.Tests.{le-leb}
use Rattle.asking.specs.Admission.{in_range}
use Rattle.asking.specs.Admitted.{range_none, range_many, range_some}
use Rattle.asking.proofs.in_range.Goals as goal

-- no steps are few, however many rounds
still : (k L : ℕ) → 1 ≤ k → L < 1 → true ≡ in_range k L
still k L h l =
    let none : L ≡ 0 = omega arith in sym (le-leb (k * L) 1024 (rw none (omega arith))) ∙ range_some k L h

many : (k L : ℕ) → 1024 < k → 1 ≤ L → 1024 < k * L
many k L h l = omega (arith, mul-le-mul_left k l)

long : (k L : ℕ) → 1 ≤ k → 1024 < L → 1024 < k * L
long k L h l = omega (arith, mul-le-mul_right L h)

tested : (k L m : ℕ) → m ≡ 1024 → 1 ≤ k → leb (k * L) m ≡ in_range k L
tested k L m e h = rw e (range_some k L h)

product : (k L : ℕ) → k ≤ 1024 → L ≤ 1024 → k * L < 2 ^ 64
product k L h l = omega (arith, mul-le-mul_right L h)

pub returns-then-k-lt1 : goal.returns-then-k-lt1
returns-then-k-lt1 c = range_none _ _ c.if-k-lt1.true

pub returns-then-steps-lt1 : goal.returns-then-steps-lt1
returns-then-steps-lt1 c = still _ _ c.if-k-lt1.false c.if-steps-lt1.true

pub returns-then-k-gt1024 : goal.returns-then-k-gt1024
returns-then-k-gt1024 c = range_many _ _ (many _ _ c.if-k-gt1024.true c.if-steps-lt1.false)

pub returns-then-steps-gt1024 : goal.returns-then-steps-gt1024
returns-then-steps-gt1024 c = range_many _ _ (long _ _ c.if-k-lt1.false c.if-steps-gt1024.true)

pub overflow_mul-result : goal.overflow_mul-result
overflow_mul-result c = record { fits = product _ _ c.if-k-gt1024.false c.if-steps-gt1024.false }

pub returns : goal.returns
returns c =
    let a = c.args in
    tested a.k a.steps _ (omega arith) c.if-k-lt1.false
