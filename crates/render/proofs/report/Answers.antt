-- The report on the table that is read, or the line of a refusal.
use Rattle.std.proofs.Common.{arith}
use Rattle.render.specs.Whole.{reported_table, reported_refused}
use Rattle.render.proofs.report.Goals as goal

pub returns-in-Counted-clause-reported : goal.returns-in-Counted-clause-reported
returns-in-Counted-clause-reported c =
    reported_table _ _ (omega arith) c.put_table.ensures.upper_bound _ _ _ _ c.read-answer.ensures c.in-Counted.is
    c.put_table.ensures.writes_table

pub returns-in-Refused-clause-reported : goal.returns-in-Refused-clause-reported
returns-in-Refused-clause-reported c =
    reported_refused _ _ (omega arith) (omega (arith, c.put_line.ensures.upper_bound)) _ _ _ c.read-answer.ensures c.in-Refused.is
    c.number-number.ensures c.put_line.ensures.written
