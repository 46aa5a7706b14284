use mathlib.Core.Path.{◌≡◌, sym}
use mathlib.Core.Bool.{false}
use Prim.Native.Nat.{ℕ, ◌+◌, ◌-◌, ◌≤◌, ◌<◌}
use native.Mathlib.Decide.{dec_le}
use lib.Dec.{leb}
use borrow.Author.Tests.{le-leb, lt-leb}
use native.Mathlib.Omega.{arith}
use Rattle.asking.proofs.loop_fits.Goals as goal

-- the same test, with the sum on the other side
moved : (t n r m : ℕ) → m ≡ t + 1 → m ≤ r → leb n (r - m) ≡ leb (t + n + 1) r
moved t n r m e h = go (dec_le n (r - m))
  where
    go : Dec (n ≤ r - m) → leb n (r - m) ≡ leb (t + n + 1) r
    go (yes l) = rw (le-leb n (r - m) l, le-leb (t + n + 1) r (omega arith))
    go (no l) = rw (lt-leb n (r - m) (omega arith), lt-leb (t + n + 1) r (omega arith))

short : (t n r : ℕ) → r < t + 1 → false ≡ leb (t + n + 1) r
short t n r h = sym (lt-leb (t + n + 1) r (omega arith))

pub returns-then-room-total : goal.returns-then-room-total
returns-then-room-total c =
    let a = c.args in short a.total a.clocks a.room (omega (arith, c.if-room-total.true))

pub returns : goal.returns
returns c =
    let a = c.args in moved a.total a.clocks a.room _ (omega arith) (omega (arith, c.if-room-total.false))
