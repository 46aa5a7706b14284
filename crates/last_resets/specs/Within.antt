-- A last reset is one of the moments.
use Rattle.std.specs.Prelude.{◌≡◌, ℕ, ◌+◌, ◌≤◌, ◌<◌}
use Rattle.std.proofs.Common.{arith}
use Rattle.std.proofs.Math.Decide.{dec_le, ℕ_discrete}
use Rattle.last_resets.specs.Distance.{last_of, last_none, last_reached, last_before}

last_inside : (d K i j : ℕ) → i < K → last_of d K i j ≤ K + j
last_inside d K i j l = go (ℕ_discrete d 0) (dec_le d i)
  where
    go : Dec (d ≡ 0) → Dec (d ≤ i) → last_of d K i j ≤ K + j
    go (yes e) h = omega (arith, last_none d K i j e)
    go (no e) (yes h) = omega (arith, last_reached d K i j e h)
    go (no e) (no h) = omega (arith, last_before d K i j (omega arith))

pub last_within : (z d K i j : ℕ) → z ≡ last_of d K i j → i < K → z ≤ K + j
last_within z d K i j e l = omega (arith, last_inside d K i j l)
