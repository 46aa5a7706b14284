-- The choice is among the spans that the rows tell, and there is none where no run exists.
use mathlib.Core.Path.{refl}
use borrow.Author.Rules.{rules}
use borrow.Author.Tests.{not-true, not-false}
use Rattle.spans.specs.Exact.{exact_told, exact_none}
use Rattle.windows.specs.Found.{told_rows}
use Rattle.widest.specs.Found.{none_widens, told_widens}
use Rattle.widest.proofs.widest_within.Goals as goal

pub returns-then-not-exact : goal.returns-then-not-exact
returns-then-not-exact c = none_widens _ _ c.requires.0 (exact_none _ _ _ _ c.exact.result (not-true _ c.if-not-exact.true-raw) c.exact.ensures)

pub widest-requires : goal.widest-requires
widest-requires c =
    told_rows _ _ c.requires.0 _ _ _ _ _ c.requires.1 c.firsts-1.given c.lasts-1.given
    (exact_told _ _ _ _ c.exact.result (not-false _ c.if-not-exact.false-raw) c.exact.ensures) _ refl

pub returns : goal.returns
returns c =
    told_widens _ _ c.requires.0 _ _ _ _ _ c.requires.1 c.firsts-1.given c.lasts-1.given
    (exact_told _ _ _ _ c.exact.result (not-false _ c.if-not-exact.false-raw) c.exact.ensures) _ refl _ c.widest.ensures
