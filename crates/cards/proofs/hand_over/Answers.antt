-- `cards::hand_over` meets its contract: nothing is written where the room is short.
use borrow.Author.Rules.{rules}
use mathlib.Core.Path.{refl}
use borrow.Author.Tests.{lt-leb, le-leb}
use Rattle.cards.specs.Convert.{handed}
use Rattle.cards.proofs.hand_over.Goals as goal

pub returns-then-room-n : goal.returns-then-room-n
unfolding handed
returns-then-room-n c = (simp (lt-leb _ _ c.if-room-n.true) refl, refl)

pub returns : goal.returns
unfolding handed
returns c = (simp (le-leb _ _ c.if-room-n.false) refl, c.copy.ensures)
