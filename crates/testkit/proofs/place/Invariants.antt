-- The place stays in the tape.
use Rattle.std.proofs.Common.{◌≤◌, length}
use Rattle.testkit.proofs.place.Given as goal

abbrev pub invariant-loop : goal.invariant-loop
invariant-loop l = l.at ≤ length l.tape
