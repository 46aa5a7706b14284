-- `wire::byte_at` meets its contract: past the end the default is read.
use mathlib.Core.Path.{sym}
use borrow.Author.Rules.{rules}
use lib.ListN.{get_or-eq_default}
use Rattle.wire.proofs.byte_at.Goals as goal

pub returns-then-bytes-i : goal.returns-then-bytes-i
returns-then-bytes-i c = (sym (get_or-eq_default c.args.bytes.now 0 c.if-bytes-i.true), search rules)

pub returns : goal.returns
returns c = c.byte_in.ensures
