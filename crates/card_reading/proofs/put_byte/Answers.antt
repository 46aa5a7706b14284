-- The byte is written at its place, and past the end nothing is.
use borrow.Author.Rules.{rules}
use mathlib.Core.Path.{sym}
use Prim.Native.Nat.{◌%◌}
use lib.Seq.{set_out}
use Rattle.card_reading.proofs.put_byte.Goals as goal

pub returns-else-to-out : goal.returns-else-to-out
returns-else-to-out c =
    let a = c.args in sym (set_out a.out.now a.to (a.byte % 256) c.if-to-out.false)
