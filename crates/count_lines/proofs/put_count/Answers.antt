-- Of a refusal nothing is written.
use Rattle.std.proofs.Common.{sym, ap}
use Rattle.text.specs.Over.{written_none, written_as}
use Rattle.count_lines.specs.Lines.{count_line}
use Rattle.count_lines.proofs.put_count.Goals as goal

pub returns-in-Refused-clause-written : goal.returns-in-Refused-clause-written
unfolding count_line
returns-in-Refused-clause-written c = written_as (sym (ap count_line c.in-Refused.is)) (written_none _ _)
