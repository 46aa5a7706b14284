-- The invariant: n numbers are carried on.
use Rattle.std.proofs.Common.{◌≡◌}
use Rattle.last_resets.specs.Carried.{carried}
use Rattle.last_resets.proofs.carry.Given as goal

abbrev pub invariant-loop-n : goal.invariant-loop-n
invariant-loop-n l = l.row ≡ carried l.flags l.from l.to l.initial.row l.n
