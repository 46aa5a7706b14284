-- Laws of scans given one after the other, and of a tray that is not refused.
use Rattle.std.specs.Prelude.{◌≡◌, Bool, true, false, ◌⊎◌, leb, length}
use Rattle.std.proofs.Math.Path.{refl, ap}
use Rattle.std.proofs.Common.{◌∙◌, inl, inr, le-leb}
use mathlib.Core.List.Memᴰ
use mathlib.Core.List.{List, [], ◌∷◌, ◌++◌, Memᴰ}
use Prim.Native.Nat.{ℕ, zero, suc, ◌≤◌, ◌<◌}
use Rattle.std.proofs.Math.ListN.{drop}
use Rattle.std.proofs.lemmas.Bool.{lt-leb}
use Rattle.table.specs.Refusal.{placeless}
use Rattle.table.specs.Step.{Step}
use Rattle.table.specs.declared.Fault.TheVariants as fault
use Rattle.table.specs.declared.Read.TheVariants as read
use Rattle.wire.specs.Reading.{read_of}
use Rattle.scans.specs.declared.Running.{Running}
use Rattle.scans.specs.declared.Scanned.{Scanned}
use Rattle.scans.specs.declared.Verdict.{Verdict}
use Rattle.scans.specs.declared.Verdict.TheVariants.{Accepted, TurnedAway}
use Rattle.scans.specs.Scan.{first_failing, due, decided, tested, scanned, fits}
use Rattle.scans.specs.Answer.{scan_of}
use Rattle.trays.specs.declared.Outcome.{Outcome}
use Rattle.trays.specs.declared.Outcome.TheVariants.{Counted, Refused}
use Rattle.trays.specs.Tray.{verdicts_by, running_by, verdict_row, accepted_in}
use Rattle.trays.specs.Answer.{or_else, admitted, counted_by, outcome_by, outcome_of, unless, running_of, verdicts_of}

-- A verdict that its number tells: accepted, or turned away by guard 1 or a later one.
pub data Told : Verdict → Type 0 where
  accepted : Told Accepted
  turned : (b : ℕ) → Told (TurnedAway (suc b))

-- such is the verdict of every scan that is judged
tested_told : (σ : List Step) (r : Running) (counter : ℕ) (readings : List ℕ) → Told (tested σ r counter readings).verdict
tested_told σ r counter readings = go (first_failing 0 (due σ r.step).guards readings)
  where
    go : (b : ℕ) → Told (decided σ r counter readings b).verdict
    go zero = accepted
    go (suc b) = turned b

pub scanned_told : (σ : List Step) (n : ℕ) (r : Running) (counter : ℕ) → Told (scanned σ n r counter).verdict
unfolding scanned
scanned_told σ n r counter = tested_told σ r counter _

-- ---- by what one scan gives
module _ (scan : Running → ℕ → Scanned) where
  -- as many verdicts as scans
  pub length_verdicts : (r : Running) (cs : List ℕ) → length (verdicts_by scan r cs) ≡ length cs
  unfolding verdicts_by
  length_verdicts r [] = refl
  length_verdicts r (c ∷ cs) = ap suc (length_verdicts (scan r c).running cs)

  -- What every scan keeps of the record holds after all of them,
  module _ (P : Running → Type 0) (keeps : (r : Running) (c : ℕ) → P r → P (scan r c).running) where
    pub running_keeps : (r : Running) (cs : List ℕ) → P r → P (running_by scan r cs)
    unfolding running_by
    running_keeps r [] p = p
    running_keeps r (c ∷ cs) p = running_keeps (scan r c).running cs (keeps r c p)

    -- and what it says of a verdict is so of each.
    module _ (Q : Verdict → Type 0) (says : (r : Running) (c : ℕ) → P r → Q (scan r c).verdict) where
      pub verdicts_each : (r : Running) (cs : List ℕ) → P r → (v : Verdict) → Memᴰ v (verdicts_by scan r cs) → Q v
      unfolding verdicts_by
      verdicts_each r [] p v m = absurd (Memᴰ.not-nil m)
      verdicts_each r (c ∷ cs) p v m = go (verdicts_each (scan r c).running cs (keeps r c p) v) (Memᴰ.cases_cons m)
        where
          go : (Memᴰ v (verdicts_by scan (scan r c).running cs) → Q v)
              → (v ≡ (scan r c).verdict) ⊎ Memᴰ v (verdicts_by scan (scan r c).running cs) → Q v
          go on (inl e) = rw e (says r c p)
          go on (inr m) = on m

-- ---- by what one scan gives, said in two ways that agree on records with a property, which scans keep
module _ (scan other : Running → ℕ → Scanned) (P : Running → Type 0) (keeps : (r : Running) (c : ℕ) → P r → P (scan r c).running)
    (same : (r : Running) (c : ℕ) → P r → scan r c ≡ other r c) where
  pub verdicts_same : (r : Running) (cs : List ℕ) → P r → verdicts_by scan r cs ≡ verdicts_by other r cs
  unfolding verdicts_by
  verdicts_same r [] p = refl
  verdicts_same r (c ∷ cs) p =
      let rest = verdicts_same (scan r c).running cs (keeps r c p) in
      let e = same r c p in
      (λ i. (e i).verdict ∷ rest i) ∙ ap (λ s. (other r c).verdict ∷ verdicts_by other s.running cs) e

  pub running_same : (r : Running) (cs : List ℕ) → P r → running_by scan r cs ≡ running_by other r cs
  unfolding running_by
  running_same r [] p = refl
  running_same r (c ∷ cs) p =
      running_same (scan r c).running cs (keeps r c p) ∙ ap (λ s. running_by other s.running cs) (same r c p)

-- ---- the tests of a tray
module _ (n L : ℕ) (r : Running) (counters : List ℕ) (places : ℕ) (o : Outcome) where
  -- by what each of them says
  abbrev tests : Bool → Bool → Bool → Outcome
  tests can few enough = or_else can fault.Record (or_else few fault.Tray (or_else enough fault.Verdicts o))

  pub admitted_not : fits n L r ≡ false → admitted n L r counters places o ≡ Refused (placeless fault.Record)
  admitted_not cannot = ap (λ can. tests can (leb (length counters) 256) (leb (length counters) places)) cannot

  module _ (can : fits n L r ≡ true) where
    pub admitted_many : 256 < length counters → admitted n L r counters places o ≡ Refused (placeless fault.Tray)
    admitted_many many = λ i. tests (can i) (lt-leb (length counters) 256 many i) (leb (length counters) places)

    pub admitted_short : length counters ≤ 256 → places < length counters
        → admitted n L r counters places o ≡ Refused (placeless fault.Verdicts)
    admitted_short few short = λ i. tests (can i) (le-leb (length counters) 256 few i) (lt-leb (length counters) places short i)

    pub admitted_all : length counters ≤ 256 → length counters ≤ places → admitted n L r counters places o ≡ o
    admitted_all few enough = λ i. tests (can i) (le-leb (length counters) 256 few i) (le-leb (length counters) places enough i)

-- ---- by bytes that are accepted, with a record that the table can go on from
module _ (bytes : List ℕ) (n L g : ℕ) (e : read_of bytes ≡ read.Counted n L g) (r : Running) (can : fits n L r ≡ true) (counters : List ℕ) where
  -- the outcome is that of the tests
  outcome_by_lem : (places : ℕ) → outcome_of bytes r counters places ≡ counted_by (scan_of bytes) n L r counters places
  unfolding outcome_of
  outcome_by_lem places = ap (outcome_by bytes r counters places) e

  -- too many counters
  pub outcome_many : (places : ℕ) → 256 < length counters
      → outcome_of bytes r counters places ≡ Refused (placeless fault.Tray)
  outcome_many places many = outcome_by_lem places ∙ admitted_many n L r counters places _ can many

  -- at most 256
  module _ (few : length counters ≤ 256) where
    -- a room that is too short
    pub outcome_short : (places : ℕ) → places < length counters
        → outcome_of bytes r counters places ≡ Refused (placeless fault.Verdicts)
    outcome_short places short = outcome_by_lem places ∙ admitted_short n L r counters places _ can few short

    -- the tray is not refused
    pub outcome_counted : (places : ℕ) → length counters ≤ places
        → outcome_of bytes r counters places ≡ Counted (accepted_in (verdicts_by (scan_of bytes) r counters))
    outcome_counted places enough = outcome_by_lem places ∙ admitted_all n L r counters places _ can few enough

    -- so the record is the one after its scans
    pub running_counted : (places : ℕ) → length counters ≤ places
        → running_of bytes r counters places ≡ running_by (scan_of bytes) r counters
    unfolding running_of
    running_counted places room = ap (λ o. unless o r (running_by (scan_of bytes) r counters)) (outcome_counted places room)

    -- and their verdicts stand in the room
    pub verdicts_counted : (room : List ℕ) → length counters ≤ length room
        → verdicts_of bytes r counters room ≡ verdict_row (verdicts_by (scan_of bytes) r counters) ++ drop (length counters) room
    unfolding verdicts_of
    verdicts_counted room h =
        ap (λ o. unless o room (verdict_row (verdicts_by (scan_of bytes) r counters) ++ drop (length counters) room))
        (outcome_counted (length room) h)
