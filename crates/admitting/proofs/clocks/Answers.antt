use Rattle.admitting.specs.Demands.{clocks_less, clocks_done}
use Prim.Native.Nat.{◌-◌}
use mathlib.Core.Path.{◌∙◌}
use native.Mathlib.Omega.{arith}
use Rattle.admitting.proofs.clocks.Goals as goal

pub loop-j-preserved : goal.loop-j-preserved
loop-j-preserved c =
    clocks_less _ (c.loop-j.j - 1) _ _ (omega arith) c.clock.ensures ∙ c.loop-j.invariant

pub returns : goal.returns
returns c = clocks_done _ (c.loop-j.j - 1) _ (omega arith) ∙ c.loop-j.invariant
