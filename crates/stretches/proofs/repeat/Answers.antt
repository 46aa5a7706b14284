-- `stretches::repeat` meets its contract.
use mathlib.Core.Path.{refl}
use Prim.Native.Nat.{ℕ, ◌+◌, ◌-◌, ◌*◌, ◌^◌, ◌≤◌, ◌<◌}
use native.Mathlib.Nat.{mul-le-mul}
use native.Mathlib.Omega.{arith}
use Rattle.stretches.proofs.repeat.Goals as goal

product : (times before count : ℕ) → times ≤ 16 → count ≤ 64 → times * (count - before) ≤ 16 * 64
product times before count h k = let l : count - before ≤ 64 = omega arith in mul-le-mul h l

sum : (times before count : ℕ) → times ≤ 16 → count ≤ 64 → before ≤ count → before + times * (count - before) < 2 ^ 64
sum times before count h k l = omega (arith, product times before count h k)

pub overflow_mul-result : goal.overflow_mul-result
overflow_mul-result c =
    let a = c.args in
    let p = product a.times a.before a.count c.requires.0 c.requires.2 in record { fits = omega (arith, p) }

pub overflow_add-result : goal.overflow_add-result
overflow_add-result c = let a = c.args in record { fits = sum a.times a.before a.count c.requires.0 c.requires.2 c.requires.1 }

pub returns : goal.returns
returns c = refl
