-- `admitting::left_part` meets its contract. The rows passed are copied.
use Rattle.admitting.specs.Grid.{LeftTo}
use Rattle.admitting.proofs.left_part.Given as goal

abbrev pub invariant-loop-r : goal.invariant-loop-r
invariant-loop-r l = LeftTo l.side l.r l.base l.stride l.cells l.left
