-- `ranges::ranges_of` meets its contract: the guards before are brought to their ranges.
use Rattle.std.proofs.Common.{◌≡◌, length, map, take}
use Rattle.ranges.specs.Allowed.{range_of}
use Rattle.ranges.proofs.ranges_of.Given as goal

abbrev pub invariant-loop-k : goal.invariant-loop-k
invariant-loop-k l = (length l.out ≡ 64) × (take l.k l.out ≡ map range_of (take l.k l.guard-items))
