-- One test of the definition for each branch.
use mathlib.Core.Path.{sym, ◌∙◌}
use mathlib.Core.Logic.{◌⊎◌}
use Prim.Native.Nat.{◌*◌, ◌≤◌, ◌<◌}
use native.Mathlib.Omega.{arith}
use borrow.Author.Tests.{not-true, not-false}
use Rattle.asking.specs.Admitted.{range_true, range_false}
use Rattle.windows.specs.Admit.{admit_rounds, admit_marks, admit_times, admit_all}
use Rattle.windows.proofs.admit_windows.Goals as goal
use Rattle.windows.proofs.admit_windows.Goals.{Else-not-in_range, Start}

-- ---- what the first test says where it is past
module _ (c : Else-not-in_range) where
  abbrev asked : Start
  asked = (goal.at.Else-not-in_range c).Start

  ranged : (1 ≤ asked.args.k) × (asked.args.k * asked.args.steps ≤ 1024)
  ranged =
      range_true asked.args.k asked.args.steps (sym c.in_range.ensures ∙ not-false _ c.if-not-in_range.false-raw)

pub returns-then-not-in_range : goal.returns-then-not-in_range
returns-then-not-in_range c =
    let a = c.args in
    let out : (a.k < 1) ⊎ (1024 < a.k * a.steps) =
    range_false a.k a.steps (sym c.in_range.ensures ∙ not-true _ c.if-not-in_range.true-raw) in
    c.refuse.ensures ∙ sym (admit_rounds a.steps a.k a.marks a.times out)

pub returns-then-marks-total : goal.returns-then-marks-total
returns-then-marks-total c =
    let a = (asked (goal.at.returns-then-marks-total c).Else-not-in_range).args in
    let short : a.marks < a.k * a.steps = omega (arith, c.if-marks-total.true) in
    c.refuse-then-marks-total.ensures ∙ sym (admit_marks a.steps a.k a.marks a.times (ranged (goal.at.returns-then-marks-total c).Else-not-in_range).0 (ranged (goal.at.returns-then-marks-total c).Else-not-in_range).1 short)

pub returns-then-times-total : goal.returns-then-times-total
returns-then-times-total c =
    let a = (asked (goal.at.returns-then-times-total c).Else-not-in_range).args in
    let enough : a.k * a.steps ≤ a.marks = omega (arith, c.if-marks-total.false) in
    let short : a.times < a.k * a.steps * 2 = omega (arith, c.if-times-total.true) in
    c.refuse-then-times-total.ensures ∙ sym (admit_times a.steps a.k a.marks a.times (ranged (goal.at.returns-then-times-total c).Else-not-in_range).0 (ranged (goal.at.returns-then-times-total c).Else-not-in_range).1 enough short)

pub returns : goal.returns
returns c =
    let a = (asked (goal.at.returns c).Else-not-in_range).args in
    let marked : a.k * a.steps ≤ a.marks = omega (arith, c.if-marks-total.false) in
    let timed : a.k * a.steps * 2 ≤ a.times = omega (arith, c.if-times-total.false) in
    sym (admit_all a.steps a.k a.marks a.times (ranged (goal.at.returns c).Else-not-in_range).0 (ranged (goal.at.returns c).Else-not-in_range).1 marked timed)
