-- Rows of moments are shown as they tell, and no run as no window.
use mathlib.Core.Path.{refl}
use borrow.Author.Tests.{not-true, not-false}
use Rattle.spans.specs.Exact.{exact_told, exact_none}
use Rattle.windows.specs.Found.{none_shows, told_shows}
use Rattle.windows.proofs.show_within.Goals as goal

pub returns-then-not-exact : goal.returns-then-not-exact
returns-then-not-exact c =
    none_shows _ _ c.requires.0 (exact_none _ _ _ _ c.exact.result (not-true _ c.if-not-exact.true-raw) c.exact.ensures) _ _ _ _ c.show_absent.ensures.marks
    c.show_absent.ensures.times

pub returns : goal.returns
returns c =
    told_shows _ _ c.requires.0 _ _ _ _ _ c.requires.1 c.firsts-1.given c.lasts-1.given
    (exact_told _ _ _ _ c.exact.result (not-false _ c.if-not-exact.false-raw) c.exact.ensures) _ refl _ _ _ _ c.show.ensures.marks c.show.ensures.times
