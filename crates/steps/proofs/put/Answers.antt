-- `steps::put` meets its contract: the code is that of the demand's bound.
use Rattle.steps.specs.Fetch.{put_is}
use Rattle.steps.proofs.put.Goals as goal

pub returns : goal.returns
returns c = put_is c.args.d _ _ c.requires.1.down (rw c.bit_of-strict.ensures at c.tighten.ensures)
