-- Laws of readings that have aged, of readings that are held, one after the other, and of records that a table can go on from.
use Rattle.std.specs.Prelude.{◌≡◌, refl, Bool, true, false, ◌&&◌, List, ℕ, zero, suc, ◌+◌, ◌≤◌, ◌<◌, leb, length, get_or, take}
use Rattle.std.specs.List.{list_all}
use Rattle.std.proofs.lemmas.List.Folds.{list_all_more}
use Rattle.std.proofs.Math.Path.{sym}
use Rattle.std.proofs.Common.{ap, ◌∙◌, arith, add-one}
use Rattle.std.proofs.Math.Bool.{and-false}
use Rattle.std.proofs.Math.Decide.{ℕ_discrete}
use borrow.Author.Tests.{lt-ltb, le-leb, lt-leb, leb-true}
use Rattle.basics.specs.Tab.{get_d_tab}
use Rattle.ticks.specs.Ticks.{later_of}
use Rattle.records.specs.Tests.{both}
use Rattle.scans.specs.declared.Running.{Running}
use Rattle.scans.specs.Scan.{aged, held_all, fits}

-- the reading of one of n clocks has aged
pub aged_at : (n ticks : ℕ) (r : List ℕ) (i : ℕ) → n ≤ 6 → i < n → get_or (aged n ticks r) i 0 ≡ later_of (get_or r i 0) ticks
unfolding aged
aged_at n ticks r i few h = get_d_tab _ 6 i (omega arith) ∙ rw (lt-ltb i n h)

pub held_none : (r : List ℕ) → held_all 0 r ≡ true
unfolding held_all
held_none r = refl

pub held_more : (n : ℕ) (r : List ℕ) → held_all n r ≡ true → get_or r n 0 ≤ 4001 → held_all (n + 1) r ≡ true
unfolding held_all
held_more n r h l = ap (λ m. held_all m r) (add-one n) ∙ simp (h, le-leb (get_or r n 0) 4001 l)

-- one that is not held is enough
pub held_not : (n i : ℕ) (r : List ℕ) → i < n → 4001 < get_or r i 0 → held_all n r ≡ false
unfolding held_all
held_not zero i r l h = absurd (omega arith)
held_not (suc n) i r l h = go (held_not n i r) (ℕ_discrete i n)
  where
    go : (i < n → 4001 < get_or r i 0 → held_all n r ≡ false) → Dec (i ≡ n) → (held_all n r && leb (get_or r n 0) 4001) ≡ false
    go on (yes e) = simp (lt-leb (get_or r n 0) 4001 (omega (arith, ap (λ m. get_or r m 0) e)), and-false)
    go on (no e) = simp (on (omega arith) h)

pub held_count : (n i : ℕ) (r : List ℕ) → i ≤ n → n ≤ i → held_all i r ≡ true → true ≡ held_all n r
held_count n i r l h e = let same : i ≡ n = omega arith in sym e ∙ ap (λ m. held_all m r) same

-- each of the first n is tested
pub held_list : (n : ℕ) (r : List ℕ) → n ≤ length r → held_all n r ≡ list_all (λ x. leb x 4001) (take n r)
unfolding held_all
held_list zero r h = refl
held_list (suc n) r h =
    rw (held_list n r (omega arith), ← list_all_more (λ x. leb x 4001) r n 0 h, add-one)

-- all are
held_each : (n : ℕ) (r : List ℕ) → ((i : ℕ) → i < n → get_or r i 0 ≤ 4001) → held_all n r ≡ true
unfolding held_all
held_each zero r h = refl
held_each (suc n) r h = rw (held_each n r (λ i l. h i (omega arith)), le-leb (get_or r n 0) 4001 (h n (omega arith)))

-- ---- a table of n clocks and L steps, and a record

module _ (n L : ℕ) (r : Running) where
  -- the test of the step, and then that of the readings
  pub fits_by : (b : Bool) → (leb 1 r.step && leb r.step L) ≡ b → (b && held_all n r.readings) ≡ fits n L r
  unfolding fits
  fits_by b e = sym (ap (λ b. b && held_all n r.readings) e)

  -- a step of the table's own and held readings are enough
  pub fits_true : 1 ≤ r.step → r.step ≤ L → ((i : ℕ) → i < n → get_or r.readings i 0 ≤ 4001) → fits n L r ≡ true
  unfolding fits
  fits_true a b h = rw (le-leb 1 r.step a, le-leb r.step L b, held_each n r.readings h)

  -- and the step is one where it can go on
  pub fits_step : fits n L r ≡ true → (1 ≤ r.step) × (r.step ≤ L)
  unfolding fits
  fits_step e = let range = both (leb 1 r.step) (leb r.step L) (both _ _ e).0 in (leb-true _ _ range.0, leb-true _ _ range.1)
