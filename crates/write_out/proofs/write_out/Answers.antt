-- Nothing is written to a short room, nor of refused bytes.
use mathlib.Core.Path.{sym, ◌∙◌}
use Rattle.text.specs.Over.{written_none, written_as}
use Rattle.write_out.specs.Plain.{written_short, written_answer}
use Rattle.write_out.proofs.write_out.Goals as goal

pub returns-then-out-lt531 : goal.returns-then-out-lt531
returns-then-out-lt531 c = written_as (written_short _ _ c.if-out-lt531.true) (written_none _ _)

pub write_table-requires : goal.write_table-requires
write_table-requires c =
    (record { clocks = _; steps = _; guards = _; counted = sym c.read-answer.ensures ∙ c.in-Counted.is }, c.if-out-lt531.false)

pub returns-in-Refused : goal.returns-in-Refused
returns-in-Refused c =
    written_as (written_answer _ _ _ c.if-out-lt531.false (sym c.read-answer.ensures ∙ c.in-Refused.is)) (written_none _ _)

pub returns-in-Counted : goal.returns-in-Counted
returns-in-Counted c =
    written_as (written_answer _ _ _ c.if-out-lt531.false (sym c.read-answer.ensures ∙ c.in-Counted.is))
    c.write_table.ensures
