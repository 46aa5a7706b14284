-- `joins::round_effect` meets its contract. The effect of the first i steps is at place 0.
use Rattle.gluing.specs.Laying.{effect_at}
use Rattle.effects.specs.Whole.{whole}
use Rattle.effects.specs.Describes.{Describes}
use Rattle.table.specs.Step.{steps_from}
use Rattle.joins.proofs.round_effect.Given as goal

abbrev pub invariant-loop-i : goal.invariant-loop-i
invariant-loop-i l = Describes (steps_from l.t 0 l.i) (whole l.side (effect_at l.row 0))
