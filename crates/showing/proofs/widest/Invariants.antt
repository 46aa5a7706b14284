-- `showing::widest` meets its contract. The invariant: the best is that of the first i steps. Assumes nothing.
use Rattle.showing.specs.Shown.{span_at}
use Rattle.showing.specs.Best.{Kept}
use Rattle.showing.proofs.widest.Given as goal

abbrev pub invariant-loop-i : goal.invariant-loop-i
invariant-loop-i l = Kept l.parts (span_at l.firsts l.lasts) l.i l.best
