-- `rounds::first_round` meets its contract: one round has no run, or its effect tells from where it runs.
use Rattle.rounds.specs.First.{first_stuck, first_effect, first_is}
use Rattle.admitting.specs.Grid.{place_lies}
use borrow.Author.Tests.{not-true, not-false}
use borrow.Author.Rules.{rules}
use native.Mathlib.Omega.{arith}
use Rattle.rounds.proofs.first_round.Goals as goal

pub returns-then-not-one : goal.returns-then-not-one
returns-then-not-one c =
    first_stuck c.args.t c.requires.3 c.args.side _ _ c.round_effect-one.ensures _ (not-true _ c.if-not-one.true-raw)

pub admits-requires : goal.admits-requires
admits-requires c =
    let s = c in (
      search rules,
      c.requires.4,
      place_lies c.requires.4 0 (omega arith) (search rules),
      (_, first_effect c.args.t c.requires.3 c.args.side _ _ c.round_effect-one.ensures (not-false _ c.if-not-one.false-raw)),
    )

pub returns : goal.returns
returns c =
    let told = c.round_effect-one.ensures in
    let some = not-false _ c.if-not-one.false-raw in
    first_is c.args.t c.requires.3 c.args.side _ _ told some _ _
    (c.admits.ensures _ (first_effect c.args.t c.requires.3 c.args.side _ _ told some))
