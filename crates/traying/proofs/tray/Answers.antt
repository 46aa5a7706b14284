-- `traying::tray` meets its contract: the reader's refusal, or the tray given to the table that the bytes write down.
use Rattle.wire.specs.Records.{Bytes}
use Rattle.traying.specs.Asking.{told_refused, accepted_good, accepted_clocks, told_given}
use native.Mathlib.Omega.{arith}
use Rattle.traying.proofs.tray.Goals as goal
use Rattle.traying.proofs.tray.Goals.{After-shared_slice_known-1}

-- every element is a byte
small : (c : After-shared_slice_known-1) → Bytes c.args.bytes.now
small c i = omega (arith, c.shared_slice_known-1.given i)

pub admit-requires : goal.admit-requires
admit-requires c =
    let a = c.args in (
      accepted_good a.bytes.now a.running a.counters.now a.verdicts.now _ c.parse-parsed.ensures.0 _ c.parse-parsed.ensures.1 (small (goal.at.admit-requires c).After-shared_slice_known-1)
          _ _ _ c.in-Counted.is,
      accepted_clocks a.bytes.now a.running a.counters.now a.verdicts.now _ c.parse-parsed.ensures.0 _ c.parse-parsed.ensures.1 (small (goal.at.admit-requires c).After-shared_slice_known-1)
          _ _ _ c.in-Counted.is,
    )

pub returns-in-Refused : goal.returns-in-Refused
returns-in-Refused c =
    let a = c.args in
    told_refused a.bytes.now a.running a.counters.now a.verdicts.now _ c.parse-parsed.ensures.0 _ c.in-Refused.is

pub returns-in-Counted : goal.returns-in-Counted
returns-in-Counted c =
    let a = c.args in
    told_given a.bytes.now a.running a.counters.now a.verdicts.now _ c.parse-parsed.ensures.0 _ c.parse-parsed.ensures.1 (small (goal.at.returns-in-Counted c).After-shared_slice_known-1)
    _ _ _ c.in-Counted.is _ _ c.admit.ensures
