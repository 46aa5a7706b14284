-- Where the scan was not refused at a stretch, it is the scan.
use borrow.Author.Rules.{rules}
use native.Mathlib.Omega.{arith}
use mathlib.Core.Path.{sym, ◌∙◌}
use Rattle.wire.specs.Records.{Bytes}
use Rattle.stretch_scan.specs.Scan.{out_plain}
use Rattle.stretch_scan.proofs.scan_out.Goals as goal
use Rattle.stretch_scan.proofs.scan_out.Goals.{After-shared_slice_known-1}

-- each byte is below 256
small : (c : After-shared_slice_known-1) → Bytes c.args.bytes.now
small c i = omega (arith, c.shared_slice_known-1.given i)

pub returns : goal.returns
returns c = out_plain _ _ _ (small (goal.at.returns c).After-shared_slice_known-1) _ c.scan-scanned.ensures (sym c.at_stretch.ensures ∙ c.if-at_stretch.false)
