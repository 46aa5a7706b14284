-- The text goes on after the end, or it does not.
use mathlib.Core.Path.{refl}
use lib.ListN.{length}
use borrow.Author.Tests.{lt-ltb, le-ltb}
use Rattle.card_reading.specs.Drafted.{closing}
use Rattle.card_reading.proofs.after_end.Goals as goal

pub returns-then-at-text : goal.returns-then-at-text
unfolding closing
returns-then-at-text c = let a = c.args in simp (lt-ltb a.at (length a.text.now) c.if-at-text.true) refl

pub returns : goal.returns
unfolding closing
returns c = let a = c.args in simp (le-ltb a.at (length a.text.now) c.if-at-text.false) refl
