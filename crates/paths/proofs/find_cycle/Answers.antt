-- The marks are filled before and after the walks, so nothing of them is left.
use Rattle.paths.specs.Search.{unmarked, marked_fill}
use Rattle.paths.proofs.find_cycle.Goals as goal

pub meet-u-requires : goal.meet-u-requires
meet-u-requires c = unmarked _ _ _ _ _ c.requires c.fill.ensures

pub returns : goal.returns
returns c = record {
  found = c.meet-u.ensures.found;
  cleared = marked_fill _ _ _ _ _ _ c.fill.ensures c.meet-u.ensures.marked c.fill-2.ensures;
}
