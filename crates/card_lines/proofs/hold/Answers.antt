-- Below HOLD it is the value, and HOLD from there on.
use native.Mathlib.Omega.{arith}
use Rattle.card_lines.proofs.hold.Goals as goal

pub returns-then-x-lt-HOLD : goal.returns-then-x-lt-HOLD
returns-then-x-lt-HOLD c = omega (arith, c.if-x-lt-HOLD.true)

pub returns : goal.returns
returns c = omega (arith, c.if-x-lt-HOLD.false)
