-- The record after a scan, by the number of its first guard that failed.
use Rattle.std.specs.Prelude.{◌≡◌, Bool, false, cond, List, ℕ, ◌+◌, ◌-◌, ◌*◌, eqb, get_or}
use Rattle.std.proofs.Common.{eq-eqb, ne_eqb}
use Rattle.basics.specs.Tab.{tab}
use Rattle.scans.specs.declared.Running.{Running}
use Rattle.scans.specs.Scan.{following}

-- the readings after the resets of step i, from 0, by the flags of all steps
unfoldable pub cleared_at : List Bool → ℕ → List ℕ → List ℕ
cleared_at resets i readings = tab (λ j. cond (get_or resets (7 * i + j + 1) false) 0 (get_or readings j 0)) 6

-- by the readings that have aged
unfoldable pub moved_on : ℕ → List Bool → Running → ℕ → List ℕ → ℕ → Running
moved_on L resets r counter readings failing =
    cond (eqb failing 0)
    (record { step = following L r.step; readings = cleared_at resets (r.step - 1) readings; counter = counter })
    r

-- ---- by the test of the number
module _ (L : ℕ) (resets : List Bool) (r : Running) (counter : ℕ) (readings : List ℕ) (failing : ℕ) where
  pub moved_none : (failing ≡ 0 → ⊥) → r ≡ moved_on L resets r counter readings failing
  unfolding moved_on
  moved_none h = rw (ne_eqb failing 0 h)

  pub moved_one : failing ≡ 0
      → record { step = following L r.step; readings = cleared_at resets (r.step - 1) readings; counter = counter }
      ≡ moved_on L resets r counter readings failing
  unfolding moved_on
  moved_one e = rw (eq-eqb failing 0 e)
