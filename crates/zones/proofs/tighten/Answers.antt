-- `zones::tighten` meets its contract: one cell is stored, the smaller of the two codes.
use Rattle.zones.specs.Building.{tighten_is}
use Rattle.zones.proofs.tighten.Goals as goal

pub returns : goal.returns
returns c = tighten_is _ _ _ _ _ c.tighter.ensures
