-- `showing::show` meets its contract. The invariant: the first i windows stand in both rooms. Assumes nothing.
use Rattle.showing.specs.Shown.{window_at}
use Rattle.showing.specs.Rooms.{Filled}
use Rattle.showing.proofs.show.Given as goal

abbrev pub invariant-loop-i : goal.invariant-loop-i
invariant-loop-i l = Filled (window_at l.parts l.firsts l.lasts) l.i l.initial.marks l.initial.times l.marks l.times
