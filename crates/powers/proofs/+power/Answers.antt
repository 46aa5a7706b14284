-- Rounds joined are rounds of the sum.
use Rattle.powers.specs.Powers.{rounded_stuck, half_pair, more_pair, rounded_same, rounded_true}
use Rattle.std.proofs.Common.{arith, rules}
use borrow.Author.Tests.{not-true, not-false}
use Rattle.powers.proofs.+power.Goals as goal

pub returns-then-not-half : goal.returns-then-not-half
returns-then-not-half t c = λ τ h. rounded_stuck _ (omega arith) (not-true _ c.if-not-half.true) (c.power-half.ensures τ h)

pub returns-then-not-both : goal.returns-then-not-both
returns-then-not-both t c = λ τ h.
    let k = half_pair (not-false _ c.if-not-half.false) (c.power-half.ensures τ h) (omega arith) (omega arith) in
    rounded_stuck _ (omega arith) c.if-not-both.true (c.joined-both.ensures τ _ _ k)

pub returns-then-k-eq0 : goal.returns-then-k-eq0
returns-then-k-eq0 t c = λ τ h.
    let k = half_pair (not-false _ c.if-not-half.false) (c.power-half.ensures τ h) (omega arith) (omega arith) in
    rounded_same (omega (arith, c.if-k-eq0.true)) (rounded_true c.if-not-both.false (c.joined-both.ensures τ _ _ k))

pub joined-odd-requires : goal.joined-odd-requires
joined-odd-requires t c =
    let (τ, h) = c.requires.5 in
    let k = half_pair (not-false _ c.if-not-half.false) (c.power-half.ensures τ h) (omega arith) (omega arith) in
    let m = more_pair c.if-not-both.false (c.joined-both.ensures τ _ _ k) (omega (arith, k.some.0)) (omega arith) in
    (search rules, search rules, c.requires.2, (τ, (_, (_, m))))

pub returns : goal.returns
returns t c = λ τ h.
    let k = half_pair (not-false _ c.if-not-half.false) (c.power-half.ensures τ h) (omega arith) (omega arith) in
    let m = more_pair c.if-not-both.false (c.joined-both.ensures τ _ _ k) (omega (arith, k.some.0)) (omega arith) in
    rounded_same (omega (arith, c.if-k-eq0.false)) (c.joined-odd.ensures τ _ _ m)
