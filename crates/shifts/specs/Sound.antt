-- The scans accepted since log-in keep every rule of a run, and a scan is turned away exactly where a guard does not hold.
use Rattle.std.specs.Prelude.{◌≡◌, ◌↔◌, ℕ, zero, suc, ◌+◌, ◌%◌, ◌<◌, length, get_or, take}
use mathlib.Core.List.{List, [], ◌∷◌, ◌++◌, Memᴰ}
use Rattle.table.specs.Step.{Step}
use Rattle.table.specs.declared.Guard.{Guard}
use Rattle.table.specs.declared.Refusal.{Refusal}
use Rattle.asking.specs.Rounds.{cycle_of}
use Rattle.runs.specs.Run.{copies, zeroed, Passes, Run}
use Rattle.scans.specs.declared.Verdict.TheVariants.{Accepted, TurnedAway, Refused}
use Rattle.scans.specs.Scan.{due}
use Rattle.shifts.specs.Shift.{Shift, Near, begun, scan_at, gone_on, shift_from, AllNear}

-- the first m steps of a table that is repeated
abbrev pub steps_to : List Step → ℕ → List Step
steps_to σ m = take m (copies σ m)

-- the time of each moment: of moment 0, the start, 0; of moment i that of the i-th accepted scan
abbrev pub moments_of : List ℕ → ℕ → ℕ
moments_of times zero = 0
moments_of times (suc i) = get_or times i 0

-- all starting readings are 0
abbrev pub no_reading : ℕ → ℕ
no_reading j = 0

-- the moment of each clock's last reset after steps from moment i on, z before them
unfoldable pub zeroed_by : List Step → ℕ → (ℕ → ℕ) → ℕ → ℕ
zeroed_by [] i z = z
zeroed_by (s ∷ σ) i z = zeroed_by σ (suc i) (zeroed s (suc i) z)

-- Guard g holds of the true reading at time t, in whole ticks, after steps of the table σ at some times.
abbrev pub HoldsAt : List Step → List ℕ → ℕ → Guard → Type 0
HoldsAt σ times t g =
    Passes 1 (moments_of (times ++ (t ∷ []))) no_reading (zeroed_by (steps_to σ (length times)) 0 (λ j. 0)) (suc (length times)) g

-- guard b is the first that does not have Q, where m guards stand before these
pub data First (Q : Guard → Type 0) : ℕ → List Guard → ℕ → Type 0 where
  here : {m : ℕ} {g : Guard} {gs : List Guard} → (Q g → ⊥) → First Q m (g ∷ gs) (suc m)
  later : {m b : ℕ} {g : Guard} {gs : List Guard} → Q g → First Q (suc m) gs b → First Q m (g ∷ gs) b

module _ (bytes : List ℕ) (first : ℕ) (s : Shift) where
  -- the guards of the next step
  abbrev pub guards_due : List Guard
  guards_due = (due (cycle_of bytes) s.running.step).guards

  -- a guard holds of the true reading at a time
  abbrev pub Holding : ℕ → Guard → Type 0
  Holding t = HoldsAt (cycle_of bytes) s.times t

  -- What is promised of a shift, and of the next scan, at a time t.
  pub record Sound : Type 0 where
    -- the next step is the one after those accepted, in the table repeated
    pub step : s.running.step ≡ length s.times % length (cycle_of bytes) + 1
    -- the accepted scans are a run of as many steps, in whole ticks, from all readings 0
    pub run : Run 1 (steps_to (cycle_of bytes) (length s.times)) (moments_of s.times) no_reading
    -- accepted exactly where every guard of the next step holds
    pub accepted : (t : ℕ) → Near s.times t
        → ((scan_at bytes first s t).verdict ≡ Accepted) ↔ ((g : Guard) → Memᴰ g guards_due → Holding t g)
    -- turned away by a guard exactly where it is the first that does not hold
    pub turned : (t : ℕ) → Near s.times t
        → (b : ℕ) → ((scan_at bytes first s t).verdict ≡ TurnedAway b) ↔ First (Holding t) 0 guards_due b
    -- never refused
    pub judged : (t : ℕ) (f : Refusal) → (scan_at bytes first s t).verdict ≡ Refused f → ⊥
    -- a scan that is not accepted changes nothing
    pub stays : (t : ℕ) → ((scan_at bytes first s t).verdict ≡ Accepted → ⊥) → gone_on bytes first s t ≡ s

-- What is promised of every shift: after log-in and any number of scans, of which each keeps the premise.
abbrev pub Promise : List ℕ → Type 0
Promise bytes =
    (first : ℕ) → first < 65536 → (ts : List ℕ) → AllNear bytes first (begun bytes first) ts
    → Sound bytes first (shift_from bytes first (begun bytes first) ts)
