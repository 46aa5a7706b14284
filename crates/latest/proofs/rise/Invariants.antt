-- The invariant: what is lowered keeps all solutions, s is the step of the round that step i is, and `top` is a moment not before `last`.
use Rattle.latest.specs.Glide.{Rising}
use Rattle.latest.proofs.rise.Given as goal

abbrev pub invariant-loop-i : goal.invariant-loop-i
invariant-loop-i l =
    Rising l.up l.far l.steps l.clocks l.total l.last l.initial.late l.late l.i l.s l.top
