-- `scanning::scan_short` meets its contract, by the answer to "read" and what is found of the record's step.
use borrow.Author.Rules.{rules}
use native.Mathlib.Omega.{arith}
use mathlib.Core.Path.{sym, ◌∙◌}
use Rattle.wire.specs.Records.{Bytes}
use Rattle.scanning.specs.Judged.{clocks_few, steps_few, after_first, concluded_scan, scan_refused}
use Rattle.scanning.proofs.scan_short.Goals as goal
use Rattle.scanning.proofs.scan_short.Goals.{After-watch-watched}

small : (c : After-watch-watched) → Bytes c.args.bytes.now
small c i = search (rules, arith)

pub conclude-requires : goal.conclude-requires
conclude-requires c =
    let w = c in
    let running = c.args.running in
    let counter = c.args.counter in
    let accepted = sym c.watch-watched.ensures.0 ∙ c.in-Counted.is in (
      clocks_few _ (small (goal.at.conclude-requires c).After-watch-watched) _ _ _ accepted running counter,
      steps_few _ (small (goal.at.conclude-requires c).After-watch-watched) _ _ _ accepted running counter,
      after_first _ (small (goal.at.conclude-requires c).After-watch-watched) _ _ _ accepted running counter _ _ c.watch-watched.ensures.1 c.elapsed-ticks.ensures.is,
    )

pub returns-in-Refused : goal.returns-in-Refused
returns-in-Refused c =
    let told = c.in-Refused.is in
    c.refuse.ensures ∙ scan_refused _ _ _ _ (sym c.watch-watched.ensures.0 ∙ told)

pub returns-in-Counted : goal.returns-in-Counted
returns-in-Counted c =
    let w = c in
    let accepted = sym c.watch-watched.ensures.0 ∙ c.in-Counted.is in
    c.conclude.ensures
    ∙ concluded_scan _ (small (goal.at.returns-in-Counted c).After-watch-watched) _ _ _ accepted _ _ _ _ c.watch-watched.ensures.1 c.elapsed-ticks.ensures.is
