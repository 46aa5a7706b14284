-- `scanning::conclude` may decide: the table can go on from the record.
use Rattle.std.proofs.Common.{◌≡◌, true, arith}
use Rattle.scans.specs.Scan.{fits}
use Rattle.scans.specs.Held.{fits_step}
use Rattle.scanning.proofs.conclude.Goals as goal

pub decide-requires : goal.decide-requires
decide-requires c =
    let a = c.args in
    let can : fits a.clocks a.steps a.running ≡ true = grind arith in
    (c.requires.0, (fits_step a.clocks a.steps a.running can).1, c.requires.1, c.requires.2 can)
