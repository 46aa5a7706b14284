-- The answer is a plan: the rooms suffice, and a run exists.
use Rattle.std.proofs.Common.{refl}
use Rattle.plan.specs.Answer.{rooms}
use Rattle.plan_report.specs.Found.{plan_holds, plan_no_loop, plan_not_refused, plan_writes}
use Rattle.plan_report.proofs.put_rounds.Goals as goal

pub returns-in-Found-clause-writes_plan : goal.returns-in-Found-clause-writes_plan
returns-in-Found-clause-writes_plan c =
    let holds = plan_holds _ _ _ _ c.requires.0 _ _ refl refl refl _ c.plan-outcome.ensures in
    plan_writes _ _ _ _ (rooms c.plan-outcome.new.times c.plan-outcome.new.starts c.plan-outcome.new.room) _ _ holds c.in-Found.is
    c.put_plan.ensures.written

pub returns-in-Loop : goal.returns-in-Loop
returns-in-Loop c =
    absurd (plan_no_loop _ _ _ _ c.requires.0 _ _ refl refl refl _ c.plan-outcome.ensures _ c.in-Loop.is)

pub returns-in-Refused : goal.returns-in-Refused
returns-in-Refused c =
    absurd (plan_not_refused _ _ _ _ c.requires.0 _ _ refl refl refl _ c.plan-outcome.ensures _ c.in-Refused.is)
