-- The invariant: the partners from a clock on are left.
use Rattle.runs.specs.Demand.{starts_of}
use Rattle.paths.specs.State.{state}
use Rattle.ways.specs.Clocks.{Left}
use Rattle.ways.specs.Partners.{partners_by}
use Rattle.ways.proofs.check_partners.Given as goal

abbrev pub invariant-loop-clock : goal.invariant-loop-clock
invariant-loop-clock l =
    Left (partners_by l.total (starts_of l.start)) l.clocks l.initial.swept.raised l.initial.swept.stamp (state l.initial.time l.initial.parent l.initial.stamp)
    l.clock l.swept.raised l.swept.stamp (state l.time l.parent l.stamp)
