-- `windows_test::hexadecimal` meets its contract: the loop keeps both lengths, and the measure is the digits left.
use Rattle.std.proofs.Common.{◌≡◌, ◌≤◌, length, rules}
use Rattle.windows_test.proofs.hexadecimal.Given as goal

abbrev pub invariant-loop-i : goal.invariant-loop-i
invariant-loop-i l = (l.i ≤ 16) × (length l.digits ≡ 16) × (length l.text ≡ 16)

abbrev pub decreases-loop-i : goal.decreases-loop-i
decreases-loop-i l = l.i
