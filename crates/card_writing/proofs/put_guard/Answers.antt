-- The clock, the sign and the constant are written one after the other, and are those of the record.
use borrow.Author.Rules.{rules}
use Rattle.text.specs.Over.{written_then, written_as}
use Rattle.card_writing.specs.Lines.{guard_line}
use Rattle.card_writing.proofs.put_guard.Goals as goal

pub returns : goal.returns
returns c =
    written_as
    (guard_line c.args.bytes.now c.args.at c.byte_at-clock.result c.byte_at-relation.result c.byte_at-low.result c.byte_at-high.result
    c.byte_at-clock.ensures.0 c.byte_at-relation.ensures.0 c.byte_at-low.ensures.0 c.byte_at-high.ensures.0
    c.byte_at-clock.ensures.1 c.byte_at-low.ensures.1 c.byte_at-high.ensures.1)
    (written_then (written_then c.put_decimal-sign.ensures.written c.put_sign-constant.ensures.written) c.put_line1.ensures.written)
