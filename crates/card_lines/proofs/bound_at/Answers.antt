-- Number, sign and number stand there, or the line is wrong.
use borrow.Author.Rules.{rules}
use mathlib.Core.Path.{sym, ap}
use Prim.Native.Nat.{◌≤◌}
use native.Mathlib.Omega.{arith}
use lib.ListN.{length}
use borrow.Author.Tests.{eq-eqb, ne_eqb}
use Rattle.card_lines.specs.Front.{bound_at}
use Rattle.card_lines.specs.Places.{number_within, sign_within}
use Rattle.card_lines.proofs.bound_at.Goals as goal
use Rattle.card_lines.proofs.bound_at.Goals.{After-number_at-n, After-sign_at-sign}

pub returns-then-n-at : goal.returns-then-n-at
unfolding bound_at
returns-then-n-at c =
    let s = c in
    simp (sym c.number_at-n.ensures, eq-eqb _ _ c.if-n-at.true) c.wrong.ensures

-- the places after the first number and after the sign lie within the text
clock_within : (c : After-number_at-n)
    → let a = c in (length c.args.text.now ≤ 16384) × (c.number_at-n.result.next ≤ length c.args.text.now)
clock_within c =
    let a = c in
    (c.requires.0, omega (arith, ap (λ n. n.next) c.number_at-n.ensures, number_within c.args.text.now c.args.at c.requires.1))

sign_place : (c : After-sign_at-sign)
    → let a = c in
    (length c.args.text.now ≤ 16384) × (c.sign_at-sign.result.next ≤ length c.args.text.now)
sign_place c =
    let s = c in
    let a = c in
    (c.requires.0, omega (arith, ap (λ n. n.next) c.sign_at-sign.ensures, sign_within c.args.text.now _ (clock_within (goal.at.After-sign_at-sign c).After-number_at-n).1))

pub sign_at-sign-requires : goal.sign_at-sign-requires
sign_at-sign-requires c = clock_within (goal.at.sign_at-sign-requires c).After-number_at-n

pub returns-then-sign-eq5 : goal.returns-then-sign-eq5
unfolding bound_at
returns-then-sign-eq5 c =
    let t = c in
    let s = c in
    simp (sym c.number_at-n.ensures, ne_eqb _ _ c.if-n-at.false, sym c.sign_at-sign.ensures, eq-eqb _ _ c.if-sign-eq5.true) c.wrong-then-sign-eq5.ensures

pub number_at-c-requires : goal.number_at-c-requires
number_at-c-requires c = sign_place (goal.at.number_at-c-requires c).After-sign_at-sign

pub returns-then-c-sign : goal.returns-then-c-sign
unfolding bound_at
returns-then-c-sign c =
    let u = c in
    let t = c in
    let s = c in
    simp (
      sym c.number_at-n.ensures,
      ne_eqb _ _ c.if-n-at.false,
      sym c.sign_at-sign.ensures,
      ne_eqb _ _ c.if-sign-eq5.false,
      sym c.number_at-c.ensures,
      eq-eqb _ _ c.if-c-sign.true,
    ) c.wrong-then-c-sign.ensures

pub closed-requires : goal.closed-requires
closed-requires c =
    let u = c in
    let a = c in
    (c.requires.0, omega (arith, ap (λ n. n.next) c.number_at-c.ensures, number_within c.args.text.now _ (sign_place (goal.at.closed-requires c).After-sign_at-sign).1))

pub returns : goal.returns
unfolding bound_at
returns c =
    let u = c in
    let t = c in
    let s = c in
    simp (
      sym c.number_at-n.ensures,
      ne_eqb _ _ c.if-n-at.false,
      sym c.sign_at-sign.ensures,
      ne_eqb _ _ c.if-sign-eq5.false,
      sym c.number_at-c.ensures,
      ne_eqb _ _ c.if-c-sign.false,
    ) c.closed.ensures
