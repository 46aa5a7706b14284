use native.Mathlib.Omega.{arith}
use mathlib.Core.Path.{ap}
use mathlib.Core.List.{[], ◌∷◌}
use Rattle.ways.specs.Clocks.{clocks_first, clocks_able, clocks_next, clocks_last}
use Rattle.ways.specs.Starting.{starts_by}
use Rattle.ways.proofs.check_starts.Goals as goal

pub loop-j-init : goal.loop-j-init
loop-j-init c = clocks_first (starts_by _) _ _ _ _ c.requires.2

pub check-swept-requires : goal.check-swept-requires
check-swept-requires c =
    let l = c.loop-j in
    clocks_able (starts_by _) _ _ _ _ l.j _ _ _ l.invariant (omega arith) _ (ap (λ d. d ∷ []) c.not_after.ensures)

pub loop-j-preserved : goal.loop-j-preserved
loop-j-preserved c =
    let l = c.loop-j in
    clocks_next (starts_by _) _ _ _ _ l.j _ _ _ l.invariant (omega arith) _
    (ap (λ d. d ∷ []) c.not_after.ensures) _ _ _ c.check-swept.ensures

pub returns : goal.returns
returns c = clocks_last (starts_by _) _ _ _ _ _ _ _ _ c.loop-j.invariant (omega arith)
