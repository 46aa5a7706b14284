-- `traying::admit` gives the scans where its three tests let them through; what it refuses, auto finds.
use Rattle.std.specs.Prelude.{◌≡◌, true, ◌≤◌, length}
use Rattle.std.proofs.Common.{arith}
use Rattle.scans.specs.Scan.{fits}
use Rattle.traying.specs.Given.{given_scans}
use Rattle.traying.proofs.admit.Goals as goal

pub returns : goal.returns
returns c =
    let a = c.args in
    let g = c.give.ensures in
    let can : fits a.t.clocks a.t.steps a.running ≡ true = grind arith in
    let few : length a.counters.now ≤ 256 = omega arith in
    let enough : length a.counters.now ≤ length a.verdicts.now = omega arith in
    given_scans a.t a.running a.counters.now a.verdicts.now can few enough _ _ g.0 g.1 g.2
