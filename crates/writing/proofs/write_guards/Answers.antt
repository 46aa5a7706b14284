use Rattle.writing.specs.Steps.{guard_clock, guard_second, guard_fits, passed_guard, passed_guards}
use Rattle.writing.proofs.write_guards.Goals as goal

pub end_of-end-requires : goal.end_of-end-requires
end_of-end-requires c =
    rw c.told-resets (guard_second c.requires.0 c.loop-g.invariant _ c.loop-g-test.true)

pub bounds-resets-clock : goal.bounds-resets-clock
bounds-resets-clock c = guard_clock c.requires.0 c.loop-g.invariant _ c.loop-g-test.true

pub put_guard-p-requires : goal.put_guard-p-requires
put_guard-p-requires c =
    guard_fits c.requires.0 c.loop-g.invariant _ c.loop-g-test.true _ c.end_of-end.ensures

pub loop-g-preserved : goal.loop-g-preserved
loop-g-preserved c =
    passed_guard c.requires.0 c.loop-g.invariant _ c.loop-g-test.true _ c.end_of-end.ensures c.put_guard-p.ensures

pub returns : goal.returns
returns c = passed_guards c.requires.0 c.loop-g.invariant c.loop-g-test.false
