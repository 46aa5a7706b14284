-- The sum is the gain of the demand.
use mathlib.Core.Path.{◌≡◌, refl}
use mathlib.Core.Bool.{Bool}
use Prim.Native.Nat.{ℕ, ◌+◌}
use borrow.Author.Rules.{rules}
use Rattle.runs.specs.declared.Demand.{Demand}
use Rattle.runs.specs.Parts.{bit}
use Rattle.paths.specs.Constraint.{constraint}
use Rattle.paths.specs.State.{State}
use Rattle.paths.specs.Bounds.{Relaxable}
use Rattle.paths.specs.Code.{Check}
use Rattle.checks.specs.InParts.{edge}
use Rattle.checks.specs.Checks.{one_slight, one_relaxable, checked_one}
use Rattle.checks.proofs.check.Goals as goal

pub overflow_add-gain : goal.overflow_add-gain
overflow_add-gain c = let k = one_slight _ _ _ c.requires in search rules

-- the gain is that of the demand
asked : (d : Demand) (b : ℕ) (s : State) → b ≡ bit d.strict → Relaxable (edge d) s
    → Relaxable (constraint d.from d.to (d.down + b) d.up) s
asked d b s e h = rw e h

given : (d : Demand) (b q : ℕ) (s s' : State) (r : Bool) → b ≡ bit d.strict
    → Check (constraint d.from d.to (d.down + b) d.up) q s s' r → Check (edge d) q s s' r
given d b q s s' r e h = rw e at h

pub relax-up-requires : goal.relax-up-requires
relax-up-requires c = asked c.args.d _ _ c.bit_of.ensures (one_relaxable _ _ _ c.requires)

pub returns : goal.returns
returns c =
    checked_one c.args.d _ _ _ _ _ _ _ (given c.args.d _ _ _ _ _ c.bit_of.ensures c.relax-up.ensures) (search rules) refl
