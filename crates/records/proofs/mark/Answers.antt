-- `records::mark` meets its contract: one shifted to the left is a power of two.
use mathlib.Core.Path.{ap}
use Prim.Native.Nat.{◌%◌}
use native.Mathlib.Nat.{mod-lt}
use lib.Bits.{bit_or}
use lib.Dec.{lit<}
use Rattle.records.specs.Marks.{power_word}
use Rattle.records.specs.Rules.{marked}
use Rattle.records.proofs.mark.Goals as goal

pub returns : goal.returns
unfolding marked
returns c = ap (bit_or c.args.pending) (power_word (c.args.digit % 32) (mod-lt c.args.digit (lit< tt)))
