-- A 0 is a number by itself; else the digits are one.
use borrow.Author.Rules.{rules}
use mathlib.Core.Path.{◌≡◌, sym, ◌∙◌}
use mathlib.Core.List.{[], ◌∷◌}
use lib.ListN.{drop}
use Rattle.text.specs.Decimal.{value_from}
use Rattle.card_lines.specs.Front.{starts, digits_at, number_at}
use Rattle.card_lines.proofs.number_at.Goals as goal
use Rattle.card_lines.proofs.number_at.Goals.{After-stands}

-- a 0 stands there, or none
zero : (c : After-stands) → let a = c.args in c.stands.result ≡ starts (48 ∷ []) (drop a.at a.text.now)
zero c = c.stands.ensures

pub returns-then-stands : goal.returns-then-stands
unfolding number_at value_from
returns-then-stands c = simp (sym (zero (goal.at.returns-then-stands c).After-stands) ∙ c.if-stands.true)

pub returns : goal.returns
unfolding number_at digits_at
returns c = simp (sym (zero (goal.at.returns c).After-stands) ∙ c.if-stands.false) c.digits_at.ensures
