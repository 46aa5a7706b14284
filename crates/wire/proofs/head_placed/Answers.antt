-- `wire::head_placed` meets its contract.
use mathlib.Core.Path.{refl}
use borrow.Author.Tests.{ne_eqb}
use Rattle.wire.proofs.head_placed.Goals as goal

pub returns-then-at-eq0 : goal.returns-then-at-eq0
returns-then-at-eq0 c = simp c.if-at-eq0.true refl

pub returns : goal.returns
returns c = simp (ne_eqb c.args.at 0 c.if-at-eq0.false) refl
