-- A short row is kept; into any other a record is put.
use mathlib.Core.Path.{ap, ◌∙◌}
use Rattle.rows.specs.Row.{with_record, row_short, row_long, row_kept}
use native.Mathlib.Omega.{arith}
use borrow.Author.Rules.{rules}
use Rattle.scan.proofs.scan_log_in.Goals as goal

pub returns-then-running-lt-RECORD : goal.returns-then-running-lt-RECORD
returns-then-running-lt-RECORD c = let row = c.args.running.now in (row_short row c.if-running-lt-RECORD.true, row_kept row _ c.if-running-lt-RECORD.true)

pub put_record-requires : goal.put_record-requires
put_record-requires c = omega (arith, c.if-running-lt-RECORD.false)

pub returns : goal.returns
returns c = let row = c.args.running.now in (row_long row c.if-running-lt-RECORD.false, c.put_record.ensures ∙ ap (with_record row) c.log_in.ensures)
