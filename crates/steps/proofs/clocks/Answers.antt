use Rattle.steps.specs.Fetch.{clocks_less, clocks_done}
use mathlib.Core.Path.{◌∙◌}
use Prim.Native.Nat.{◌-◌}
use native.Mathlib.Omega.{arith}
use Rattle.steps.proofs.clocks.Goals as goal

pub loop-j-preserved : goal.loop-j-preserved
loop-j-preserved c =
    clocks_less c.args.side c.args.t c.args.i (c.loop-j.j - 1) c.loop-j.cells _ (omega arith) (omega arith)
    c.clock.ensures ∙ c.loop-j.invariant

pub returns : goal.returns
returns c =
    clocks_done c.args.side c.args.t c.args.i (c.loop-j.j - 1) _ c.loop-j.cells _ (omega arith) c.tighten.ensures
    c.loop-j.invariant
