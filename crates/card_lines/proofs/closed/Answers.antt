-- The line feed stands there, or the line is wrong.
use borrow.Author.Rules.{rules}
use mathlib.Core.Path.{◌≡◌, sym, ◌∙◌}
use mathlib.Core.List.{[], ◌∷◌}
use lib.ListN.{drop}
use borrow.Author.Tests.{not-true, not-false}
use Rattle.card_lines.specs.Front.{starts, closed_at}
use Rattle.card_lines.proofs.closed.Goals as goal
use Rattle.card_lines.proofs.closed.Goals.{After-stands}

-- the line feed stands there, or not
feed : (c : After-stands) → let a = c.args in c.stands.result ≡ starts (10 ∷ []) (drop a.f.next a.text.now)
feed c = c.stands.ensures

pub returns-then-not-stands : goal.returns-then-not-stands
unfolding closed_at
returns-then-not-stands c = simp (sym (feed (goal.at.returns-then-not-stands c).After-stands) ∙ not-true _ c.if-not-stands.true-raw) c.wrong.ensures

pub returns : goal.returns
unfolding closed_at
returns c = simp (sym (feed (goal.at.returns c).After-stands) ∙ not-false _ c.if-not-stands.false-raw)
