-- Every shift is sound, and accepted scans that fill whole rounds are a run of them.
use Rattle.std.specs.Prelude.{◌≡◌, refl, ◌↔◌, List, ℕ, zero, suc, ◌*◌, ◌<◌, length}
use Rattle.std.proofs.Common.{ap, sym, ◌∙◌, arith}
use Rattle.std.proofs.Math.Path.{subst}
use Rattle.std.proofs.Math.Logic.Iff.{trans as iff_trans}
use Rattle.std.proofs.lemmas.Bool.{false≢true}
use Rattle.std.proofs.lemmas.List.{length-map}
use Rattle.table.specs.Step.{Step}
use Rattle.table.specs.declared.Guard.{Guard}
use Rattle.table.specs.declared.Read.TheVariants as read
use Rattle.table.specs.declared.Refusal.{Refusal}
use Rattle.ticks.specs.Ticks.{counter_at}
use Rattle.wire.specs.Records.{Bytes}
use Rattle.wire.specs.Reading.{read_of}
use Rattle.wire.specs.Listing.{listing, step_of}
use Rattle.format.proofs.Accepted.{Counted, accepted_counted}
use Rattle.format.specs.Fair.{legal_plain, legal_clocks, legal_fair}
use Rattle.runs.specs.Run.{Run}
use Rattle.runs.specs.Start.{start_upper}
use Rattle.runs.specs.Tools.{Every}
use Rattle.runs.specs.declared.Start.TheVariants.{LogIn}
use Rattle.asking.specs.Rounds.{clocks_of, cycle_of, RunExists}
use Rattle.scans.specs.declared.Scanned.{Scanned}
use Rattle.scans.specs.declared.Verdict.TheVariants.{Accepted, TurnedAway, Refused}
use Rattle.scans.specs.Scan.{due, first_failing, decided, scanned}
use Rattle.scans.specs.Going.{scan_judged}
use Rattle.shifts.specs.Shift.{Shift, Near, begun, scan_at, gone_on, shift_from, AllNear, none, more}
use Rattle.shifts.specs.Sound.{steps_to, moments_of, no_reading, HoldsAt, First, Sound, Promise}
use Rattle.shifts.specs.Grown.{steps_rounds}
use Rattle.shifts.specs.Held.{none_failing, failing_first, first_failing_lem}
use Rattle.shifts.proofs.Kept.{Limits, Kept, shift_with, kept_begun, kept_fits, readings_at, kept_tells, kept_scanned}

-- ---- by the number of the first guard that fails, 0 where none does
module _ (σ : List Step) (s : Shift) (counter : ℕ) (readings : List ℕ) where
  -- what is found
  abbrev decided_by : ℕ → Scanned
  decided_by b = decided σ s.running counter readings b

  -- accepted where none fails
  decided_accepted : (b : ℕ) → ((decided_by b).verdict ≡ Accepted) ↔ (b ≡ 0)
  decided_accepted zero = ((λ e. refl), λ e. refl)
  decided_accepted (suc b) = ((λ e. cc), λ e. absurd (omega arith))

  -- turned away by the first that fails
  decided_turned : (a b : ℕ) → ((decided_by a).verdict ≡ TurnedAway b) ↔ ((0 < b) × (a ≡ b))
  decided_turned zero b = ((λ e. absurd (false≢true cc)), λ h. absurd (omega (arith, h.0, h.1)))
  decided_turned (suc a) b = ((λ e. let q : suc a ≡ b = cc in (omega arith, q)), λ h. ap TurnedAway h.1)

  -- never refused
  decided_judged : (b : ℕ) (f : Refusal) → (decided_by b).verdict ≡ Refused f → ⊥
  decided_judged zero f e = false≢true cc
  decided_judged (suc b) f e = false≢true cc

  -- where it is not accepted the shift stays
  decided_stays : (t b : ℕ) → ((decided_by b).verdict ≡ Accepted → ⊥) → shift_with s t (decided_by b) ≡ s
  decided_stays t zero h = absurd (h refl)
  decided_stays t (suc b) h = refl

-- ---- one scan, in a table with the steps σ and n clocks
module _ (σ : List Step) (n first : ℕ) (w : Limits σ n) (s : Shift) (k : Kept σ n first s) where
  -- the guards of the step that is due
  abbrev guards : List Guard
  guards = (due σ s.running.step).guards

  -- the readings that they are tested on at time t
  abbrev readings : ℕ → List ℕ
  readings t = readings_at n first s.running t

  -- what is found of a scan then
  abbrev found : ℕ → Scanned
  found t = scanned σ n s.running (counter_at first t)

  -- accepted exactly where every guard holds
  found_accepted : (t : ℕ) → Near s.times t → ((found t).verdict ≡ Accepted) ↔ Every (HoldsAt σ s.times t) guards
  unfolding scanned
  found_accepted t near =
      iff_trans
      (decided_accepted σ s (counter_at first t) (readings t) (first_failing 0 guards (readings t)))
      (none_failing (HoldsAt σ s.times t) (readings t) 0 guards (kept_tells σ n first w s k t near))

  -- turned away by a guard exactly where it is the first that does not hold
  found_turned : (t : ℕ) → Near s.times t → (b : ℕ) → ((found t).verdict ≡ TurnedAway b) ↔ First (HoldsAt σ s.times t) 0 guards b
  unfolding scanned
  found_turned t near b =
      let tells = kept_tells σ n first w s k t near in
      iff_trans
      (decided_turned σ s (counter_at first t) (readings t) (first_failing 0 guards (readings t)) b) (
        (λ f. failing_first (HoldsAt σ s.times t) (readings t) 0 guards tells b f.0 f.1),
        first_failing_lem (HoldsAt σ s.times t) (readings t) tells,
      )

  -- never refused
  found_judged : (t : ℕ) (f : Refusal) → (found t).verdict ≡ Refused f → ⊥
  unfolding scanned
  found_judged t = decided_judged σ s (counter_at first t) (readings t) (first_failing 0 guards (readings t))

  -- where it is not accepted nothing changes
  found_stays : (t : ℕ) → ((found t).verdict ≡ Accepted → ⊥) → shift_with s t (found t) ≡ s
  unfolding scanned
  found_stays t = decided_stays σ s (counter_at first t) (readings t) t (first_failing 0 guards (readings t))

-- ---- accepted bytes
module _ (bytes : List ℕ) (h : Bytes bytes) (n L g : ℕ) (e : read_of bytes ≡ read.Counted n L g) where
  -- they write down a table
  written : Counted (listing bytes) n L g
  written = accepted_counted bytes h n L g e

  -- of L steps
  pub size : L ≡ length (cycle_of bytes)
  size = written.steps ∙ sym (length-map (listing bytes).steps step_of)

  -- and n clocks, within the limits
  pub limits : Limits (cycle_of bytes) n
  limits =
      record {
        few = omega (arith, written.clocks, written.legal.clocks_few);
        some = omega (arith, size, written.steps, written.legal.steps_some);
        fair = legal_fair (listing bytes) written.legal;
        clocks = rw written.clocks (legal_clocks (listing bytes) written.legal);
        plain = legal_plain (listing bytes) written.legal;
      }

  module _ (first : ℕ) where
    -- every scan of a shift that has kept is judged
    scan_is : (s : Shift) → Kept (cycle_of bytes) n first s → (t : ℕ)
        → scan_at bytes first s t ≡ scanned (cycle_of bytes) n s.running (counter_at first t)
    scan_is s k t = scan_judged bytes n L g e s.running (counter_at first t) (rw size (kept_fits (cycle_of bytes) n first limits s k))

    -- a scan keeps
    kept_gone : (s : Shift) → Kept (cycle_of bytes) n first s → (t : ℕ) → Near s.times t
        → Kept (cycle_of bytes) n first (gone_on bytes first s t)
    unfolding gone_on
    kept_gone s k t near =
        subst (λ x. Kept (cycle_of bytes) n first (shift_with s t x)) (sym (scan_is s k t))
        (kept_scanned (cycle_of bytes) n first limits s k t near)

    -- and so do any number of them
    kept_from : {s : Shift} {ts : List ℕ} → Kept (cycle_of bytes) n first s → AllNear bytes first s ts
        → Kept (cycle_of bytes) n first (shift_from bytes first s ts)
    unfolding shift_from
    kept_from k none = k
    kept_from k (more {s = s} {t = t} near rest) = kept_from (kept_gone s k t near) rest

    -- a shift that has kept is sound
    sound : (s : Shift) → Kept (cycle_of bytes) n first s → Sound bytes first s
    unfolding gone_on
    sound s k =
        record {
          step = k.step;
          run = k.run;
          accepted = λ t near. rw (scan_is s k t) (found_accepted (cycle_of bytes) n first limits s k t near);
          turned = λ t near. rw (scan_is s k t) (found_turned (cycle_of bytes) n first limits s k t near);
          judged = λ t. rw (scan_is s k t) (found_judged (cycle_of bytes) n first limits s k t);
          stays = λ t. rw (scan_is s k t) (found_stays (cycle_of bytes) n first limits s k t);
        }

    -- a shift from log-in has kept
    kept_shift : first < 65536 → (ts : List ℕ) → AllNear bytes first (begun bytes first) ts
        → Kept (cycle_of bytes) n first (shift_from bytes first (begun bytes first) ts)
    kept_shift b ts a = kept_from (kept_begun (cycle_of bytes) n first limits b) a

-- Every shift with accepted bytes is sound.
pub shifts_sound : (bytes : List ℕ) → Bytes bytes → (n L g : ℕ) → read_of bytes ≡ read.Counted n L g → Promise bytes
shifts_sound bytes h n L g e first b ts a =
    sound bytes h n L g e first (shift_from bytes first (begun bytes first) ts) (kept_shift bytes h n L g e first b ts a)

-- Where the scans accepted since log-in fill k rounds, a run of k rounds exists, from log-in.
pub shift_rounds : (bytes : List ℕ) → Bytes bytes → (n L g : ℕ) → read_of bytes ≡ read.Counted n L g
    → (first : ℕ) → first < 65536 → (ts : List ℕ) → AllNear bytes first (begun bytes first) ts
    → (k : ℕ) → length (shift_from bytes first (begun bytes first) ts).times ≡ k * length (cycle_of bytes) → RunExists bytes LogIn k
shift_rounds bytes h n L g e first b ts a k c =
    record {
      parts = 1;
      positive = omega arith;
      moments = moments_of times;
      starts = no_reading;
      allowed = (start_upper LogIn (clocks_of bytes)).zero 1;
      run = subst (λ σ. Run 1 σ (moments_of times) no_reading)
          (ap (steps_to (cycle_of bytes)) c ∙ steps_rounds (cycle_of bytes) (limits bytes h n L g e).some k)
          (shifts_sound bytes h n L g e first b ts a).run;
    }
  where
    times : List ℕ
    times = (shift_from bytes first (begun bytes first) ts).times
