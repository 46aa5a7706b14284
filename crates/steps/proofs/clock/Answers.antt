-- `steps::clock` meets its contract: its three bounds are the constraints of the clock.
use Rattle.steps.specs.Fetch.{clock_put}
use Rattle.steps.proofs.clock.Goals as goal

pub returns : goal.returns
returns c =
    let a = c.args in
    clock_put a.side a.reset a.j _ _ _ _ _ c.last-from.ensures.0 c.tighten.ensures c.tighten-2.ensures
    c.tighten-3.ensures
