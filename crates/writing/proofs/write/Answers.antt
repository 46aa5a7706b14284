use Rattle.std.proofs.Common.{arith}
use Rattle.writing.specs.Ends.{passed_first, starts_fit, passed_done}
use Rattle.writing.specs.Steps.{order_fits, guards_fit, passed_step}
use Rattle.writing.proofs.write.Goals as goal

pub loop-past-init : goal.loop-past-init
loop-past-init c = passed_first c.requires.0 _ _ c.requires.1 c.fresh-resets.ensures

pub put_not_after-q-requires : goal.put_not_after-q-requires
put_not_after-q-requires c = order_fits c.requires.0 c.loop-past.invariant c.loop-past-test.true

pub write_guards-q-requires : goal.write_guards-q-requires
write_guards-q-requires c = (
  c.requires.0.good,
  c.loop-past.invariant.step,
  omega (arith, c.requires.0.few, c.loop-past-test.true),
  guards_fit c.requires.0 c.loop-past.invariant c.loop-past-test.true c.put_not_after-q.ensures,
)

pub loop-past-preserved : goal.loop-past-preserved
loop-past-preserved c =
    passed_step c.requires.0 c.loop-past.invariant c.loop-past-test.true c.put_not_after-q.ensures
    c.write_guards-q.ensures c.reset_clocks.ensures c.following-s.ensures

pub put_starts-requires : goal.put_starts-requires
put_starts-requires c =
    (c.requires.0.good.clocks_few, c.requires.0.few, starts_fit c.requires.0 c.loop-past.invariant c.loop-past-test.false)

pub returns : goal.returns
returns c =
    passed_done c.requires.0 c.loop-past.invariant c.loop-past-test.false c.requires.1 c.put_starts.ensures
