-- `gluing::block` meets its contract. The rows passed are laid.
use Rattle.gluing.specs.Blocks.{block_of}
use mathlib.Core.Path.{◌≡◌}
use Rattle.gluing.proofs.block.Given as goal

abbrev pub invariant-loop-r : goal.invariant-loop-r
invariant-loop-r l = l.out ≡ block_of l.to l.from l.row l.side l.r l.initial.out
