-- `traying::give` meets its contract: the scans before have been given.
use Rattle.traying.specs.Given.{GivenTo}
use Rattle.traying.proofs.give.Given as goal

abbrev pub invariant-loop-at : goal.invariant-loop-at
invariant-loop-at l =
    GivenTo l.t l.counters l.initial.verdicts l.initial.r l.verdicts l.r l.accepted l.at
