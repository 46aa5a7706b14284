-- The sum is the gain of the demand.
use Rattle.std.proofs.Common.{◌≡◌, List, [], ◌∷◌, ℕ, ◌+◌, sym, ◌∙◌, rules}
use Rattle.runs.specs.declared.Demand.{Demand}
use Rattle.runs.specs.Parts.{bit}
use Rattle.paths.specs.Constraint.{constraint}
use Rattle.checks.specs.InParts.{edge}
use Rattle.lowering.specs.Lowered.{Bounds, lower_of, lowers_one}
use Rattle.lowering.specs.Bounded.{Lowerable}
use Rattle.bounding.specs.Turns.{after_of, one_lowerable, one_gain}
use Rattle.bounding.proofs.bound.Goals as goal

-- the gain is that of the demand
asked : (d : Demand) (b : ℕ) (l : List ℕ) → b ≡ bit d.strict → Lowerable (edge d) l
    → Lowerable (constraint d.from d.to (d.down + b) d.up) l
asked d b l e h = rw e h

given : (d : Demand) (b : ℕ) (s : Bounds) → b ≡ bit d.strict
    → lower_of (constraint d.from d.to (d.down + b) d.up) s ≡ after_of (d ∷ []) s
given d b s e = rw e (sym (lowers_one (edge d) s))

pub overflow_add-gain : goal.overflow_add-gain
overflow_add-gain c = let k = one_gain c.args.d _ c.requires in search rules

pub lower-requires : goal.lower-requires
lower-requires c =
    asked c.args.d _ _ c.bit_of.ensures (one_lowerable c.args.d _ c.requires)

pub returns : goal.returns
returns c =
    c.lower.ensures ∙ given c.args.d _ _ c.bit_of.ensures
