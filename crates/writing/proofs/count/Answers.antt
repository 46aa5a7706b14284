use Rattle.std.proofs.Common.{arith}
use Rattle.constraints.specs.Count.{demands_bounded}
use Rattle.writing.specs.Tally.{tallied_first, tallied_few, tallied_done, tallied_next}
use Rattle.writing.proofs.count.Goals as goal

pub loop-place-init : goal.loop-place-init
loop-place-init c = tallied_first c.requires

pub overflow_add-n : goal.overflow_add-n
overflow_add-n c =
    let next = tallied_next c.requires c.loop-place.invariant _ c.loop-place-test.true c.guard_number-n.ensures in
    record { fits = omega (arith, tallied_few c.requires next c.args.start) }

pub loop-place-preserved : goal.loop-place-preserved
loop-place-preserved c = tallied_next c.requires c.loop-place.invariant _ c.loop-place-test.true c.guard_number-n.ensures

pub overflow_mul-result : goal.overflow_mul-result
overflow_mul-result c =
    let number = tallied_done c.requires c.loop-place.invariant c.args.start c.loop-place-test.false in
    record { fits = omega (arith, number, demands_bounded _ c.args.start _ c.requires.good c.requires.few) }

pub overflow_add-result-2 : goal.overflow_add-result-2
overflow_add-result-2 c =
    let number = tallied_done c.requires c.loop-place.invariant c.args.start c.loop-place-test.false in
    let bounded = demands_bounded _ c.args.start _ c.requires.good c.requires.few in
    record { fits = rw c.partners.ensures (omega (arith, number, bounded)) }

pub returns : goal.returns
returns c =
    rw c.partners.ensures (tallied_done c.requires c.loop-place.invariant c.args.start c.loop-place-test.false)
