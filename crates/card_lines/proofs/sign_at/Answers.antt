-- The signs are tried in the definition's order.
use borrow.Author.Rules.{rules}
use mathlib.Core.Path.{refl, sym, ◌∙◌}
use Rattle.card_lines.specs.Front.{sign_else, sign_at}
use Rattle.card_lines.proofs.sign_at.Goals as goal

pub returns-then-stands : goal.returns-then-stands
unfolding sign_at sign_else
returns-then-stands c = simp (sym c.stands.ensures ∙ c.if-stands.true) refl

pub returns-then-stands-2 : goal.returns-then-stands-2
unfolding sign_at sign_else
returns-then-stands-2 c =
    simp (
      sym c.stands.ensures ∙ c.if-stands.false,
      sym c.stands-2.ensures ∙ c.if-stands-2.true,
    ) refl

pub returns-then-stands-3 : goal.returns-then-stands-3
unfolding sign_at sign_else
returns-then-stands-3 c =
    simp (
      sym c.stands.ensures ∙ c.if-stands.false,
      sym c.stands-2.ensures ∙ c.if-stands-2.false,
      sym c.stands-3.ensures ∙ c.if-stands-3.true,
    ) refl

pub returns-then-stands-4 : goal.returns-then-stands-4
unfolding sign_at sign_else
returns-then-stands-4 c =
    simp (
      sym c.stands.ensures ∙ c.if-stands.false,
      sym c.stands-2.ensures ∙ c.if-stands-2.false,
      sym c.stands-3.ensures ∙ c.if-stands-3.false,
      sym c.stands-4.ensures ∙ c.if-stands-4.true,
    ) refl

pub returns-then-stands-5 : goal.returns-then-stands-5
unfolding sign_at sign_else
returns-then-stands-5 c =
    simp (
      sym c.stands.ensures ∙ c.if-stands.false,
      sym c.stands-2.ensures ∙ c.if-stands-2.false,
      sym c.stands-3.ensures ∙ c.if-stands-3.false,
      sym c.stands-4.ensures ∙ c.if-stands-4.false,
      sym c.stands-5.ensures ∙ c.if-stands-5.true,
    ) refl

pub returns : goal.returns
unfolding sign_at sign_else
returns c =
    simp (
      sym c.stands.ensures ∙ c.if-stands.false,
      sym c.stands-2.ensures ∙ c.if-stands-2.false,
      sym c.stands-3.ensures ∙ c.if-stands-3.false,
      sym c.stands-4.ensures ∙ c.if-stands-4.false,
      sym c.stands-5.ensures ∙ c.if-stands-5.false,
    ) refl
