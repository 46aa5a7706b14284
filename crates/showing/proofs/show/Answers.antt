use Rattle.std.proofs.Common.{ap, ◌∙◌, arith}
use Rattle.window.specs.Window.{window_of}
use Rattle.showing.specs.Rooms.{row_small, filled_none, filled_more}
use Rattle.showing.proofs.show.Goals as goal

pub loop-i-init : goal.loop-i-init
loop-i-init c = filled_none _ _ _

pub in_seconds-w-requires : goal.in_seconds-w-requires
in_seconds-w-requires c = row_small _ _ _ _ _ _ _ c.requires.0 c.loop-i-test.true c.span_of.ensures

pub loop-i-preserved : goal.loop-i-preserved
loop-i-preserved c =
    filled_more _ _ _ _ _ _ _ _ _ (c.in_seconds-w.ensures ∙ ap (window_of c.args.parts) c.span_of.ensures)
    (omega arith) (omega arith) c.place.ensures.marks c.place.ensures.times c.loop-i.invariant
