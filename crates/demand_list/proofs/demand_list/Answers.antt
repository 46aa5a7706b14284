-- The row is as `rows` wrote it, and the list as `fill` wrote it from the row.
use Rattle.std.proofs.Common.{◌∙◌}
use Rattle.demand_list.proofs.Fit.{fill_fits, list_is}
use Rattle.demand_list.proofs.demand_list.Goals as goal

pub fill-requires : goal.fill-requires
fill-requires c =
    fill_fits c.args.bytes.now c.args.start c.args.k c.args.row.now c.args.list.now c.rows-listed.result
    c.rows-listed.new.row c.count_of-count.result c.rows-listed.ensures.0 c.count_of-count.ensures
    c.rows-listed.auto.row

pub returns : goal.returns
returns c =
    let e = c.rows-listed.ensures in (
      e.0,
      e.1,
      c.fill.ensures
          ∙ list_is c.args.bytes.now c.args.start c.args.k c.args.row.now c.args.list.now c.rows-listed.result
          c.rows-listed.new.row c.count_of-count.result e.0 e.1 c.count_of-count.ensures,
    )
