-- `decode::parse` meets its contract: the table is filled in exactly where the answer is a count.
use mathlib.Core.Path.{sym, ◌∙◌}
use Rattle.wire.specs.Laws.{counted_short}
use Rattle.decode.specs.Laws.{table_counted, table_refused}
use Rattle.decode.proofs.parse.Goals as goal

pub fill-requires : goal.fill-requires
fill-requires c = counted_short c.args.bytes.now _ _ _ (sym c.read-answer.ensures ∙ c.in-Counted.is)

pub returns-in-Refused : goal.returns-in-Refused
returns-in-Refused c = (
  c.read-answer.ensures,
  c.empty_table.ensures ∙ sym (table_refused c.args.bytes.now _
      (sym c.read-answer.ensures ∙ c.in-Refused.is)),
)

pub returns-in-Counted : goal.returns-in-Counted
returns-in-Counted c = (
  c.read-answer.ensures,
  c.fill.ensures ∙ sym (table_counted c.args.bytes.now _ _ _
      (sym c.read-answer.ensures ∙ c.in-Counted.is)),
)
