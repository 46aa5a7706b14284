-- A number stands there, or the line is wrong.
use borrow.Author.Rules.{rules}
use mathlib.Core.Path.{sym, ap}
use native.Mathlib.Omega.{arith}
use borrow.Author.Tests.{eq-eqb, ne_eqb}
use Rattle.card_lines.specs.Front.{numbered_at}
use Rattle.card_lines.specs.Places.{number_within}
use Rattle.card_lines.proofs.numbered.Goals as goal

pub returns-then-n-at : goal.returns-then-n-at
unfolding numbered_at
returns-then-n-at c =
    let s = c in
    simp (sym c.number_at-n.ensures, eq-eqb _ _ c.if-n-at.true) c.wrong.ensures

pub closed-requires : goal.closed-requires
closed-requires c =
    let s = c in
    let a = c in
    (c.requires.0, omega (arith, ap (λ n. n.next) c.number_at-n.ensures, number_within c.args.text.now c.args.at c.requires.1))

pub returns : goal.returns
unfolding numbered_at
returns c =
    let s = c in
    simp (sym c.number_at-n.ensures, ne_eqb _ _ c.if-n-at.false) c.closed.ensures
