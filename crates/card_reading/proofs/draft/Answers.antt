use borrow.Author.Rules.{rules}
use mathlib.Core.Path.{◌≡◌, refl, sym, ◌∙◌, subst}
use Prim.Native.Nat.{◌-◌, ◌<◌}
use native.Mathlib.Omega.{arith}
use lib.ListN.{length}
use Rattle.text.specs.Over.{written_length}
use Rattle.card_lines.specs.Fronts.{Fronts, front}
use Rattle.card_reading.specs.Going.{At, at_start, at_out, at_refused, at_next, at_last}
use Rattle.card_reading.proofs.draft.Goals as goal
use Rattle.card_reading.proofs.draft.Goals.{After-line_at-f, After-slice_known-in-Next-1}

pub loop-at-init : goal.loop-at-init
loop-at-init c = (refl, at_start _ _ c.requires)

pub line_at-f-requires : goal.line_at-f-requires
line_at-f-requires c = let here = c.loop-at.invariant.1 in (here.short, here.within)

-- the line at the place, as it is found
found : (c : After-line_at-f)
    → Fronts c.args.text.now c.loop-at.at c.line_at-f.result
found c =
    subst (Fronts _ _) (sym c.line_at-f.ensures)
    (front _ _ c.loop-at-test.true)

pub returns-in-Refused : goal.returns-in-Refused
returns-in-Refused c =
    at_refused c.loop-at.invariant.1 (found (goal.at.returns-in-Refused c).After-line_at-f) _ (sym c.judge_found-verdict.ensures ∙ c.in-Refused.is) _

pub put_found-n-requires : goal.put_found-n-requires
put_found-n-requires c =
    let here = c.loop-at.invariant.1 in
    omega (arith, here.small, here.within, here.short)

pub returns-in-Last : goal.returns-in-Last
returns-in-Last c =
    at_last c.loop-at.invariant.1 (found (goal.at.returns-in-Last c).After-line_at-f) _ _ c.put_found-n.ensures.written
    (sym c.judge_found-verdict.ensures ∙ c.in-Last.is) c.after_end.ensures

pub put_found-to-requires : goal.put_found-to-requires
put_found-to-requires c =
    let here = c.loop-at.invariant.1 in
    omega (arith, here.small, here.within, here.short)

-- the line is taken
next : (c : After-slice_known-in-Next-1)
    → (c.loop-at.at < c.line_at-f.result.next)
    × At c.args.text.now c.args.out.now c.in-Next.u
    c.line_at-f.result.next c.put_found-to.result c.put_found-to.new.out
next c =
    at_next c.loop-at.invariant.1 (found (goal.at.After-slice_known-in-Next-1 c).After-line_at-f) _ _ c.put_found-to.ensures.written _
    (sym c.judge_found-verdict.ensures ∙ c.in-Next.is) c.put_found-to.ensures.upper_bound

pub loop-at-smaller : goal.loop-at-smaller
loop-at-smaller c =
    omega (arith, (next (goal.at.loop-at-smaller c).After-slice_known-in-Next-1).0, c.loop-at-test.true)

pub loop-at-preserved : goal.loop-at-preserved
loop-at-preserved c = (written_length c.put_found-to.ensures.written ∙ c.loop-at.invariant.0, (next (goal.at.loop-at-preserved c).After-slice_known-in-Next-1).1)

pub returns : goal.returns
returns c = at_out c.loop-at.invariant.1 c.loop-at-test.false
