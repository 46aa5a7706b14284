use Rattle.paths.specs.Sweep.{swept_more, swept_met, swept_all}
use Rattle.paths.proofs.meet.Goals as goal

pub returns-then-marks-x : goal.returns-then-marks-x
returns-then-marks-x c =
    swept_met _ _ _ c.requires.searchable.links _ _ _ _ _ c.loop-v.invariant c.loop-v-test.true c.mark-x.ensures
    c.if-marks-x.true

pub loop-v-preserved : goal.loop-v-preserved
loop-v-preserved c =
    swept_more _ _ _ c.requires.searchable.links _ _ _ _ _ c.loop-v.invariant c.loop-v-test.true c.mark-x.ensures
    c.if-marks-x.false

pub returns : goal.returns
returns c = swept_all _ _ _ _ _ _ c.loop-v.invariant c.loop-v-test.false
