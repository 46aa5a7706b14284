-- The words are tried in the definition's order.
use borrow.Author.Rules.{rules}
use mathlib.Core.List.{[], ◌∷◌, ◌++◌}
use native.Mathlib.Omega.{arith}
use Rattle.cards.specs.Words.{timers_word, zero_word}
use Rattle.card_lines.specs.Places.{starts_within}
use mathlib.Core.Path.{refl, sym, ◌∙◌}
use Rattle.card_lines.specs.Front.{line_at}
use Rattle.card_lines.proofs.line_at.Goals as goal

pub numbered-requires : goal.numbered-requires
numbered-requires c =
    let a = c in
    (c.requires.0, omega (arith, starts_within (timers_word ++ 32 ∷ []) c.args.text.now c.args.at c.requires.1 (sym c.stands.ensures ∙ c.if-stands.true)))

pub returns-then-stands : goal.returns-then-stands
unfolding line_at
returns-then-stands c = simp (sym c.stands.ensures ∙ c.if-stands.true) c.numbered.ensures

pub numbered-requires-then-stands-2 : goal.numbered-requires-then-stands-2
numbered-requires-then-stands-2 c =
    let a = c in
    (c.requires.0, omega (arith, starts_within (zero_word ++ 32 ∷ []) c.args.text.now c.args.at c.requires.1 (sym c.stands-2.ensures ∙ c.if-stands-2.true)))

pub returns-then-stands-2 : goal.returns-then-stands-2
unfolding line_at
returns-then-stands-2 c =
    simp (
      sym c.stands.ensures ∙ c.if-stands.false,
      sym c.stands-2.ensures ∙ c.if-stands-2.true,
    )
    c.numbered-then-stands-2.ensures

pub returns-then-stands-3 : goal.returns-then-stands-3
unfolding line_at
returns-then-stands-3 c =
    simp (
      sym c.stands.ensures ∙ c.if-stands.false,
      sym c.stands-2.ensures ∙ c.if-stands-2.false,
      sym c.stands-3.ensures ∙ c.if-stands-3.true,
    ) refl

pub returns-then-stands-4 : goal.returns-then-stands-4
unfolding line_at
returns-then-stands-4 c =
    simp (
      sym c.stands.ensures ∙ c.if-stands.false,
      sym c.stands-2.ensures ∙ c.if-stands-2.false,
      sym c.stands-3.ensures ∙ c.if-stands-3.false,
      sym c.stands-4.ensures ∙ c.if-stands-4.true,
    ) refl

pub returns : goal.returns
unfolding line_at
returns c =
    simp (
      sym c.stands.ensures ∙ c.if-stands.false,
      sym c.stands-2.ensures ∙ c.if-stands-2.false,
      sym c.stands-3.ensures ∙ c.if-stands-3.false,
      sym c.stands-4.ensures ∙ c.if-stands-4.false,
    )
    c.bound_at.ensures
