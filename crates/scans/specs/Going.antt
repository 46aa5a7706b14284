-- A table goes on from scan to scan: from a record that it can go on from, no scan is refused, and the record after it is such a one too.
use Rattle.std.specs.Prelude.{◌≡◌, Bool, true, false, cond, List, ℕ, zero, suc, ◌+◌, ◌≤◌, ◌<◌, length, get_or}
use Rattle.std.proofs.Common.{ap, ◌∙◌, arith, eq-eqb, ne_eqb}
use Rattle.std.proofs.Math.Decide.{ℕ_discrete}
use Rattle.basics.specs.Tab.{get_d_tab}
use Rattle.ticks.specs.Ticks.{elapsed_of}
use Rattle.table.specs.Step.{Step, resets}
use Rattle.table.specs.declared.Read.TheVariants as read
use Rattle.wire.specs.Reading.{read_of}
use Rattle.asking.specs.Rounds.{cycle_of}
use Rattle.scans.specs.declared.Running.{Running}
use Rattle.scans.specs.Scan.{aged, first_failing, cleared, due, following, decided, scanned, fits}
use Rattle.scans.specs.Held.{aged_at, fits_step, fits_true}
use Rattle.scans.specs.Answer.{answered_by, scan_of}

-- the scan is judged
pub scan_judged : (bytes : List ℕ) (n L g : ℕ) → read_of bytes ≡ read.Counted n L g → (r : Running) (counter : ℕ) → fits n L r ≡ true
    → scan_of bytes r counter ≡ scanned (cycle_of bytes) n r counter
unfolding scan_of
scan_judged bytes n L g e r counter can = ap (answered_by bytes r counter) e ∙ rw can

-- the step after one of L steps
following_range : (L i : ℕ) → 1 ≤ i → i ≤ L → (1 ≤ following L i) × (following L i ≤ L)
following_range L i a b = go (ℕ_discrete i L)
  where
    go : Dec (i ≡ L) → (1 ≤ following L i) × (following L i ≤ L)
    go (yes e) = rw (eq-eqb i L e) (omega arith, omega arith)
    go (no e) = rw (ne_eqb i L e) (omega arith, omega arith)

-- readings that have aged, after resets
cleared_held : (s : Step) (n ticks : ℕ) (r : List ℕ) (i : ℕ) → n ≤ 6 → i < n → get_or (cleared s (aged n ticks r)) i 0 ≤ 4001
unfolding cleared
cleared_held s n ticks r i few l = rw (get_d_tab (λ i. cond (resets s (i + 1)) 0 (get_or (aged n ticks r) i 0)) 6 i (omega arith)) (go (resets s (i + 1)))
  where
    go : (b : Bool) → cond b 0 (get_or (aged n ticks r) i 0) ≤ 4001
    go true = omega arith
    go false = omega (arith, aged_at n ticks r i few l)

-- the record after a scan
pub fits_scanned : (σ : List Step) (n L : ℕ) (r : Running) (counter : ℕ) → n ≤ 6 → length σ ≡ L → fits n L r ≡ true
    → fits n L (scanned σ n r counter).running ≡ true
unfolding scanned
fits_scanned σ n L r counter few long can = go (first_failing 0 (due σ r.step).guards readings)
  where
    readings : List ℕ
    readings = aged n (elapsed_of r.counter counter) r.readings

    go : (b : ℕ) → fits n L (decided σ r counter readings b).running ≡ true
    go zero =
        let range = fits_step n L r can in
        let next = following_range (length σ) r.step range.0 (omega (arith, range.1, long)) in
        fits_true n L (decided σ r counter readings 0).running next.0 (omega (arith, next.1, long))
        (λ i l. cleared_held (due σ r.step) n (elapsed_of r.counter counter) r.readings i few l)
    go (suc b) = can
