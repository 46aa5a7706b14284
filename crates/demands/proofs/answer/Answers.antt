-- Each way out is a case of the answer; only on the last is the row written.
use borrow.Author.Rules.{rules}
use borrow.Author.Tests.{not-true, not-false}
use mathlib.Core.Path.{◌≡◌, sym, ap, ◌∙◌}
use mathlib.Core.Bool.{true}
use native.Mathlib.Omega.{arith}
use Rattle.asking.specs.Admission.{in_range}
use Rattle.demands.specs.declared.Listed.TheVariants.{Written}
use Rattle.demands.specs.Answer.{answer_rounds, answer_list, answer_written, kept, in_range_sized}
use Rattle.demands.proofs.answer.Goals as goal
use Rattle.demands.proofs.answer.Goals.{Else-not-in_range}

within : (c : Else-not-in_range) → in_range c.args.k c.args.t.steps ≡ true
within c = sym c.in_range.ensures ∙ not-false _ c.if-not-in_range.false-raw

pub returns-then-not-in_range : goal.returns-then-not-in_range
returns-then-not-in_range c = (
  c.refused.ensures
      ∙ answer_rounds _ _ _ _ (sym c.in_range.ensures ∙ not-true _ c.if-not-in_range.true-raw),
  kept _ _ c.refused.ensures,
)

pub count-n-requires : goal.count-n-requires
count-n-requires c = in_range_sized c.requires (within (goal.at.count-n-requires c).Else-not-in_range)

pub returns-then-row-n : goal.returns-then-row-n
returns-then-row-n c =
    let counted = c in (
      c.refused-then-row-n.ensures
          ∙ answer_list _ _ _ _ (within (goal.at.returns-then-row-n c).Else-not-in_range) (omega (arith, c.if-row-n.true, c.count-n.ensures)),
      kept _ _ c.refused-then-row-n.ensures,
    )

pub returns-then-limit-n : goal.returns-then-limit-n
returns-then-limit-n c =
    let counted = c in (
      c.refused-then-limit-n.ensures
          ∙ answer_list _ _ _ _ (within (goal.at.returns-then-limit-n c).Else-not-in_range) (omega (arith, c.if-limit-n.true, c.count-n.ensures)),
      kept _ _ c.refused-then-limit-n.ensures,
    )

pub write-requires : goal.write-requires
write-requires c =
    let counted = c in (
      in_range_sized c.requires (within (goal.at.write-requires c).Else-not-in_range),
      omega (arith, c.if-row-n.false, c.count-n.ensures),
    )

pub returns : goal.returns
returns c =
    let counted = c in (
      ap Written c.count-n.ensures
          ∙ answer_written _ _ _ _ (within (goal.at.returns c).Else-not-in_range)
          (omega (arith, c.if-row-n.false, c.if-limit-n.false, c.count-n.ensures)),
      c.write.ensures,
    )
