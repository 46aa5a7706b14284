-- The first k bytes are those of the definition.
use Rattle.std.proofs.Common.{◌≡◌, ◌<◌, ℕ, length, get_or}
use Rattle.testkit.specs.Filled.{byte_at}
use Rattle.testkit.proofs.fill.Given as goal

abbrev pub invariant-loop-k : goal.invariant-loop-k
invariant-loop-k l = (i : ℕ) → i < l.k → get_or l.out i 0 ≡ byte_at (length l.initial.out) l.head l.pattern l.tail i
