-- The first demand, and the second where there are two.
use Rattle.std.proofs.Common.{false, true, sym, ◌∙◌}
use Rattle.cells.specs.Pieces.{made, first_fits, second_fits, guard_twice}
use Rattle.cells.proofs.put_guard.Goals as goal

pub put-p-requires : goal.put-p-requires
put-p-requires c =
    let a = c.args in
    let first = made a.guard a.z a.e _ _ false _ c.up_of-up.ensures c.down_of-down.ensures c.guard_demand-first.ensures in
    first_fits a.guard a.z a.e c.requires first

pub put-requires : goal.put-requires
put-requires c =
    let a = c.args in
    let first = made a.guard a.z a.e _ _ false _ c.up_of-up.ensures c.down_of-down.ensures c.guard_demand-first.ensures in
    let second = made a.guard a.z a.e _ _ true _ c.up_of-up.ensures c.down_of-down.ensures c.guard_demand-second.ensures in
    let two = sym c.twice.ensures ∙ c.if-not-twice.false in
    second_fits a.guard a.z a.e c.requires first c.put-p.ensures two second

pub returns : goal.returns
returns c =
    let a = c.args in
    let first = made a.guard a.z a.e _ _ false _ c.up_of-up.ensures c.down_of-down.ensures c.guard_demand-first.ensures in
    let second = made a.guard a.z a.e _ _ true _ c.up_of-up.ensures c.down_of-down.ensures c.guard_demand-second.ensures in
    let two = sym c.twice.ensures ∙ c.if-not-twice.false in
    guard_twice a.guard a.z a.e c.requires first c.put-p.ensures two second c.put.ensures
