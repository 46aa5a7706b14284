-- `admitting::clock` meets its contract: the variant has a demand for the clock, or it has none.
use Rattle.admitting.specs.Demands.{partner_short, partner_put, partner_absent}
use Rattle.admitting.proofs.clock.Goals as goal

pub put-requires : goal.put-requires
put-requires c =
    (c.requires.0, partner_short c.args.start c.args.j _ c.partner_of.ensures c.requires.1 c.requires.2 _ c.in-One.is)

pub returns-in-One : goal.returns-in-One
returns-in-One c = partner_put c.args.start c.args.j _ c.partner_of.ensures _ _ _ c.in-One.is c.put.ensures

pub returns-in-None : goal.returns-in-None
returns-in-None c = partner_absent c.args.start c.args.j _ c.partner_of.ensures _ c.in-None.is
