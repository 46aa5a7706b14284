-- A refusal is told; of accepted bytes the scan is by the part of the room which holds the table written out.
use borrow.Author.Rules.{rules}
use native.Mathlib.Omega.{arith}
use mathlib.Core.Path.{sym, ◌∙◌}
use lib.Dec.{lit≤}
use Rattle.wire.specs.Records.{Bytes}
use Rattle.write_out.specs.Plain.{Accepted}
use Rattle.write_out.specs.Out.{out_front}
use Rattle.stretch_scan.specs.Scan.{out_refused, out_written}
use Rattle.stretch_scan.proofs.scan_written.Goals as goal
use Rattle.stretch_scan.proofs.scan_written.Goals.{After-shared_slice_known-1, In-Counted}

-- each byte is below 256
small : (c : After-shared_slice_known-1) → Bytes c.args.bytes.now
small c i = omega (arith, c.shared_slice_known-1.given i)

-- the bytes are accepted
counted : (c : In-Counted) → Accepted c.args.bytes.now
counted c = record { clocks = _; steps = _; guards = _; counted = sym c.read-answer.ensures ∙ c.in-Counted.is }

pub write_table-end-requires : goal.write_table-end-requires
write_table-end-requires c = (counted (goal.at.write_table-end-requires c).In-Counted, lit≤ tt)

pub slice_bounds-scan-end : goal.slice_bounds-scan-end
slice_bounds-scan-end c = (out_front _ (small (goal.at.slice_bounds-scan-end c).After-shared_slice_known-1) (counted (goal.at.slice_bounds-scan-end c).In-Counted) _ _ _ (lit≤ tt) c.write_table-end.ensures).1

pub returns-in-Refused : goal.returns-in-Refused
returns-in-Refused c = out_refused _ _ _ _ (sym c.read-answer.ensures ∙ c.in-Refused.is)

pub returns-in-Counted : goal.returns-in-Counted
returns-in-Counted c =
    out_written _ _ _ (small (goal.at.returns-in-Counted c).After-shared_slice_known-1) (counted (goal.at.returns-in-Counted c).In-Counted) _ (lit≤ tt) c.write_table-end.ensures c.scan.ensures
