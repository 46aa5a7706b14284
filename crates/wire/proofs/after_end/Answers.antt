-- `wire::after_end` meets its contract: a record begins at the place, or none does.
use mathlib.Core.Path.{sym}
use Rattle.wire.specs.Laws.{tail_more, tail_none}
use Rattle.wire.proofs.after_end.Goals as goal

pub returns-then-at-bytes : goal.returns-then-at-bytes
returns-then-at-bytes c = let a = c.args in sym (tail_more a.bytes.now a.t a.at c.if-at-bytes.true)

pub returns : goal.returns
returns c = let a = c.args in sym (tail_none a.bytes.now a.t a.at c.if-at-bytes.false)
