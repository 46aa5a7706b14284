use Rattle.leads.specs.Filling.{filling_plain, filling_lead}
use Rattle.leads.proofs.put_step.Goals as goal
use Rattle.leads.proofs.put_step.Goals.{then-g-ne0, else-g-ne0}

pub loop-i-preserved : goal.loop-i-preserved
loop-i-preserved c =
    elim c.if-g-ne0.branch [
      | then-g-ne0 w ↦
          rw (w.row-is, w.next-is)
          (filling_lead c.args.t.now c.requires.0 c.args.constants.now _ _ _ _ c.loop-i.invariant c.requires.2 c.loop-i-test.true _ _
          w.if-g-ne0.true w.code_of.ensures)
      | else-g-ne0 w ↦
          rw (w.row-is, w.next-is)
          (filling_plain c.args.t.now c.requires.0 c.args.constants.now _ _ _ _ c.loop-i.invariant c.requires.2 c.loop-i-test.true _ w.if-g-ne0.false)
    ]
