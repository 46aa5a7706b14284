-- A partner is checked, and none asks for no check.
use Rattle.ways.specs.Partners.{none_checked}
use Rattle.ways.proofs.check_partner.Goals as goal

pub returns-in-None : goal.returns-in-None
returns-in-None c = none_checked _ c.in-None.is _ _ _
