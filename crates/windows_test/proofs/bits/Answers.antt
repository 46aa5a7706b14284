-- `windows_test::bits` meets its contract: what equals itself is no NaN, and so has bits.
use Rattle.std.proofs.Common.{◌≡◌, false, not, T, subst, rules}
use lib.Ieee.{Float, nan, inf, fin, ne, is_nan}
use Rattle.windows_test.proofs.bits.Goals as goal

no_nan : (x : Float) → ne x x ≡ false → T (not (is_nan x))
unfolding ne is_nan
no_nan nan same = subst T same tt
no_nan (inf s) same = tt
no_nan (fin s m e) same = tt

pub float_to_bits-result : goal.float_to_bits-result
float_to_bits-result c = no_nan _ c.if-x.false
