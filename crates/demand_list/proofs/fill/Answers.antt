-- A turn fills one place more, and at the last one i is the count.
use Rattle.std.proofs.Common.{◌≡◌, add-one, arith}
use Rattle.demand_list.specs.Fill.{filled_suc, filled_zero}
use Rattle.demand_list.proofs.fill.Goals as goal

pub loop-i-init : goal.loop-i-init
loop-i-init c = (omega arith, filled_zero c.args.row.now c.args.list.now)

pub loop-i-preserved : goal.loop-i-preserved
loop-i-preserved c =
    let e = filled_suc c.args.row.now c.loop-i.i c.args.list.now c.line_at-d.ensures in
    let n = add-one c.loop-i.i in
    (omega arith, cc)

pub returns : goal.returns
returns c =
    let n : c.loop-i.i ≡ c.args.count = omega arith in
    cc
