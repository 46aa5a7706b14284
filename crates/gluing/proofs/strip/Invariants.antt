-- `gluing::strip` meets its contract. The codes passed are laid.
use Rattle.gluing.specs.Blocks.{strip_of}
use mathlib.Core.Path.{◌≡◌}
use Rattle.gluing.proofs.strip.Given as goal

abbrev pub invariant-loop-c : goal.invariant-loop-c
invariant-loop-c l = l.out ≡ strip_of l.to l.from l.row l.c l.initial.out
