-- `seconds::seconds` meets its contract: both casts are of whole numbers below 2 ^ 53, and the quotient is the fraction rounded once,
-- which is the nearest. Assumes nothing.
use mathlib.Core.Path.{sym, subst}
use Prim.Native.Nat.{ℕ, ◌*◌, ◌<◌}
use native.Mathlib.Nat.{le_of_lt}
use native.Mathlib.Omega.{arith}
use lib.Ieee.{Float}
use Rattle.seconds.specs.Seconds.{Nearest}
use Rattle.seconds.proofs.Rounding.{divided, seconds_nearest}
use Rattle.seconds.proofs.seconds.Goals as goal

positive : (x : ℕ) → 0 < x → 0 < 10 * x
positive x h = omega arith

pub returns : goal.returns
returns c =
    let moment = c.args.moment in
    let parts = c.args.parts in
    let e = divided moment (10 * parts) (le_of_lt c.requires.0) (positive parts c.requires.1) (le_of_lt c.requires.2) in
    record {
      is = e;
      nearest = subst (λ (x : Float). Nearest x moment (10 * parts)) (sym e) (seconds_nearest moment parts c.requires.0 c.requires.1);
    }
