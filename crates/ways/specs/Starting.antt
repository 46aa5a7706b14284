-- The start demands, clock by clock, when there are K steps.
use Rattle.std.specs.Prelude.{false, [], ◌∷◌, ℕ, ◌+◌}
use Rattle.runs.specs.Demand.{plus, start_demands, any_starts}
use Rattle.runs.specs.DemandOrder.{start_demands_zero, start_demands_suc}
use Rattle.ways.specs.Clocks.{ByClock}

pub starts_by : (K : ℕ) → ByClock (start_demands K any_starts) (λ j. plus 0 (K + j) 0 false ∷ [])
unfolding any_starts
starts_by K = record { none = start_demands_zero K any_starts; more = start_demands_suc K any_starts }
