-- One test of the definition for each branch.
use mathlib.Core.Path.{sym, ◌∙◌}
use mathlib.Core.Logic.{◌⊎◌}
use Prim.Native.Nat.{◌+◌, ◌*◌, ◌≤◌, ◌<◌}
use native.Mathlib.Omega.{arith}
use borrow.Author.Tests.{leb-true, leb-false, not-true, not-false}
use Rattle.asking.specs.Admitted.{range_true, range_false}
use Rattle.asking.specs.Admitted.{admit_rounds, admit_times, admit_starts, admit_loop, admit_all}
use Rattle.asking.proofs.admit.Goals as goal
use Rattle.asking.proofs.admit.Goals.{Else-not-in_range, Start}

-- ---- what the first test says once it is past
module _ (c : Else-not-in_range) where
  abbrev asked : Start
  asked = (goal.at.Else-not-in_range c).Start

  ranged : (1 ≤ asked.args.k) × (asked.args.k * asked.args.steps ≤ 1024)
  ranged =
      range_true asked.args.k asked.args.steps
      (sym c.in_range.ensures ∙ not-false _ c.if-not-in_range.false-raw)

pub returns-then-not-in_range : goal.returns-then-not-in_range
returns-then-not-in_range c =
    let a = c.args in
    let out : (a.k < 1) ⊎ (1024 < a.k * a.steps) =
    range_false a.k a.steps (sym c.in_range.ensures ∙ not-true _ c.if-not-in_range.true-raw) in
    c.refuse.ensures ∙ sym (admit_rounds a.clocks a.steps a.k a.times a.starts a.room out)

pub overflow_mul-total : goal.overflow_mul-total
overflow_mul-total c = record { fits = omega (arith, (ranged (goal.at.overflow_mul-total c).Else-not-in_range).1) }

pub returns-then-times-total : goal.returns-then-times-total
returns-then-times-total c =
    let a = (asked (goal.at.returns-then-times-total c).Else-not-in_range).args in
    let short : a.times < a.k * a.steps = omega (arith, c.if-times-total.true) in
    c.refuse-then-times-total.ensures
    ∙ sym
    (admit_times a.clocks a.steps a.k a.times a.starts a.room (ranged (goal.at.returns-then-times-total c).Else-not-in_range).0 (ranged (goal.at.returns-then-times-total c).Else-not-in_range).1 short)

pub returns-then-starts-clocks : goal.returns-then-starts-clocks
returns-then-starts-clocks c =
    let a = (asked (goal.at.returns-then-starts-clocks c).Else-not-in_range).args in
    let timed : a.k * a.steps ≤ a.times = omega arith in
    let short : a.starts < a.clocks = omega (arith, c.if-starts-clocks.true) in
    c.refuse-then-starts-clocks.ensures
    ∙ sym
    (admit_starts a.clocks a.steps a.k a.times a.starts a.room (ranged (goal.at.returns-then-starts-clocks c).Else-not-in_range).0 (ranged (goal.at.returns-then-starts-clocks c).Else-not-in_range).1
    timed short)

pub loop_fits-requires : goal.loop_fits-requires
loop_fits-requires c = (ranged (goal.at.loop_fits-requires c).Else-not-in_range).1

pub returns-then-not-loop_fits : goal.returns-then-not-loop_fits
returns-then-not-loop_fits c =
    let a = (asked (goal.at.returns-then-not-loop_fits c).Else-not-in_range).args in
    let timed : a.k * a.steps ≤ a.times = omega arith in
    let started : a.clocks ≤ a.starts = omega arith in
    let short : a.room < a.k * a.steps + a.clocks + 1 =
    leb-false _ _ (sym c.loop_fits.ensures ∙ not-true _ c.if-not-loop_fits.true-raw) in
    c.refuse-then-not-loop_fits.ensures
    ∙ sym
    (admit_loop a.clocks a.steps a.k a.times a.starts a.room (ranged (goal.at.returns-then-not-loop_fits c).Else-not-in_range).0 (ranged (goal.at.returns-then-not-loop_fits c).Else-not-in_range).1
    timed started short)

pub returns : goal.returns
returns c =
    let a = (asked (goal.at.returns c).Else-not-in_range).args in
    let timed : a.k * a.steps ≤ a.times = omega arith in
    let started : a.clocks ≤ a.starts = omega arith in
    let enough : a.k * a.steps + a.clocks + 1 ≤ a.room =
    leb-true _ _ (sym c.loop_fits.ensures ∙ not-false _ c.if-not-loop_fits.false-raw) in
    sym
    (admit_all a.clocks a.steps a.k a.times a.starts a.room (ranged (goal.at.returns c).Else-not-in_range).0 (ranged (goal.at.returns c).Else-not-in_range).1
    timed started enough)
