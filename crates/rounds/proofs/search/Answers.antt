-- `rounds::search` meets its contract: one round does not run, or the search goes up and down from its effect.
use Rattle.rounds.specs.Counting.{counts_none, counts_finite, finds_count, finds_unending}
use Rattle.climbing.specs.Ways.{down_top}
use Rattle.effects.specs.Whole.{Side}
use Rattle.table.specs.Step.{steps_of}
use borrow.Author.Tests.{not-true, not-false}
use Prim.Native.Nat.{◌+◌, ◌<◌}
use borrow.Author.Rules.{rules}
use native.Mathlib.Omega.{arith}
use Rattle.rounds.proofs.search.Goals as goal
use Rattle.rounds.proofs.search.Goals.{Start}

side : (c : Start) → Side (c.args.t.clocks + 1)
side c = (omega arith, omega (arith, c.requires.3.clocks_few))

pub first_round-one-requires : goal.first_round-one-requires
first_round-one-requires c =
    (search rules, search rules, search rules, c.requires.3, side (goal.at.first_round-one-requires c).Start, c.requires.4)

pub returns-then-not-one : goal.returns-then-not-one
returns-then-not-one c =
    finds_count (counts_none c.args.t c.requires.3 c.args.start (c.first_round-one.ensures.stuck (not-true _ c.if-not-one.true-raw)))

pub up-top-requires : goal.up-top-requires
up-top-requires c =
    (search rules, search rules, search rules, side (goal.at.up-top-requires c).Start, (steps_of c.args.t, c.first_round-one.ensures.runs (not-false _ c.if-not-one.false-raw)))

pub returns-then-place-eq24 : goal.returns-then-place-eq24
returns-then-place-eq24 c =
    finds_unending (c.up-top.ensures.endless c.if-place-eq24.true (steps_of c.args.t) (c.first_round-one.ensures.runs (not-false _ c.if-not-one.false-raw)))

pub down-count-requires : goal.down-count-requires
down-count-requires c =
    let low : c.up-top.result.place < 24 = omega (arith, c.up-top.ensures.low, c.if-place-eq24.false) in
    let top =
    down_top (c.args.t.clocks + 1) _ (steps_of c.args.t) _ _ _ low (c.up-top.ensures.is c.if-place-eq24.false)
    (c.up-top.ensures.top c.if-place-eq24.false (steps_of c.args.t) (c.first_round-one.ensures.runs (not-false _ c.if-not-one.false-raw))) in
    (search rules, search rules, search rules, side (goal.at.down-count-requires c).Start, low, c.up-top.ensures.is c.if-place-eq24.false, (steps_of c.args.t, top))

pub returns : goal.returns
returns c =
    let low : c.up-top.result.place < 24 = omega (arith, c.up-top.ensures.low, c.if-place-eq24.false) in
    let top =
    down_top (c.args.t.clocks + 1) _ (steps_of c.args.t) _ _ _ low (c.up-top.ensures.is c.if-place-eq24.false)
    (c.up-top.ensures.top c.if-place-eq24.false (steps_of c.args.t) (c.first_round-one.ensures.runs (not-false _ c.if-not-one.false-raw))) in
    finds_count (counts_finite c.args.t c.requires.3 c.args.start (c.args.t.clocks + 1) _ _ _
    (c.down-count.ensures (steps_of c.args.t) top))
