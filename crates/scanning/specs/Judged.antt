-- A scan, by what is found of its step while the table is read.
use Rattle.std.specs.Prelude.{◌≡◌, Bool, true, false, cond, ℕ, zero, suc, ◌-◌, ◌≤◌, ◌<◌, length, get_or}
use Rattle.std.proofs.Math.Path.{refl, sym, ap}
use Rattle.std.proofs.Common.{subst, ◌∙◌, arith, eq-eqb, ne_eqb}
use mathlib.Core.List.{List, [], ◌∷◌, map}
use Rattle.std.proofs.lemmas.List.{length-map}
use Rattle.table.specs.Refusal.{placeless}
use Rattle.table.specs.Step.{Step}
use Rattle.table.specs.Steps.{member_at}
use Rattle.table.specs.declared.Fault.TheVariants as fault
use Rattle.table.specs.declared.Read.TheVariants as read
use Rattle.table.specs.declared.Refusal.{Refusal}
use Rattle.wire.specs.Records.{Bytes}
use Rattle.wire.specs.Reading.{read_of}
use Rattle.wire.specs.Listing.{Entry, guards_of, listing, step_of}
use Rattle.format.specs.Encode.{LegalEntry}
use Rattle.format.proofs.Accepted.{Counted, accepted_counted}
use Rattle.asking.specs.Rounds.{cycle_of}
use Rattle.ticks.specs.Ticks.{elapsed_of}
use Rattle.scans.specs.declared.Running.{Running}
use Rattle.scans.specs.declared.Scanned.{Scanned}
use Rattle.scans.specs.declared.Verdict.TheVariants.{Accepted, TurnedAway}
use Rattle.scans.specs.Scan.{aged, first_failing, cleared, following, due, decided, scanned, fits}
use Rattle.scans.specs.Held.{fits_step}
use Rattle.scans.specs.Answer.{refused_with, answered_by, scan_of}
use Rattle.scanning.specs.declared.Progress.{Progress}
use Rattle.scanning.specs.Progress.{progress_of, settled, decided_by, concluded_by}
use Rattle.scanning.specs.Tested.{settled_cleared}
use Rattle.scanning.specs.Found.{counted, Found, found}

-- step i of the table, by its entries
map_at : (ss : List (List Entry)) (i : ℕ) (d : Step) → i < length ss → get_or (map step_of ss) i d ≡ step_of (get_or ss i [])
map_at [] i d h = absurd (omega arith)
map_at (s ∷ ss) zero d h = refl
map_at (s ∷ ss) (suc i) d h = map_at ss i d (omega arith)

-- bytes that are accepted, and a record
module _ (bytes : List ℕ) (small : Bytes bytes) (n L g : ℕ) (e : read_of bytes ≡ read.Counted n L g) (r : Running) (counter : ℕ) where
  w : Counted (listing bytes) n L g
  w = accepted_counted bytes small n L g e

  pub clocks_few : n ≤ 6
  clocks_few = omega (arith, w.clocks, w.legal.clocks_few)

  pub steps_few : L ≤ 16
  steps_few = omega (arith, w.steps, w.legal.steps_few)

  abbrev ticks : ℕ
  ticks = elapsed_of r.counter counter

  abbrev q : Progress
  q = progress_of r.step r.readings ticks bytes

  module _ (can : fits n L r ≡ true) where
    range : (1 ≤ r.step) × (r.step ≤ L)
    range = fits_step n L r can

    abbrev es : List Entry
    es = get_or (listing bytes).steps (r.step - 1) []

    of_step : Found r.step r.readings ticks n clocks_few q es
    of_step = found bytes small n L g e clocks_few r.step r.readings ticks range.0 range.1

    -- a guard that failed is counted after those before the step
    found_after : (q.failing ≡ 0 → ⊥) → q.first ≤ q.failing
    found_after some = go (first_failing 0 (guards_of es) (aged n ticks r.readings)) of_step.failing
      where
        go : (b : ℕ) → q.failing ≡ counted q.first b → q.first ≤ q.failing
        go zero f = absurd (some f)
        go (suc b) f = omega (arith, f)

    decided_scanned : decided_by q n ticks L r counter ≡ scanned (cycle_of bytes) n r counter
    unfolding decided_by scanned step_of
    decided_scanned =
        go (first_failing 0 (guards_of es) old) of_step.failing
        ∙ ap (λ s. decided σ r counter old (first_failing 0 s.guards old)) (sym step)
      where
        σ : List Step
        σ = cycle_of bytes

        old : List ℕ
        old = aged n ticks r.readings

        among : r.step - 1 < length (listing bytes).steps
        among = omega (arith, range.0, range.1, w.steps)

        step : due σ r.step ≡ step_of es
        step = map_at (listing bytes).steps (r.step - 1) (record { guards = []; flags = [] }) among

        after : settled n ticks q.resets r.readings ≡ cleared (due σ r.step) old
        after =
            settled_cleared n ticks q.resets r.readings es of_step.resets
            (λ x m. subst (λ c. LegalEntry c x) (sym w.clocks)
            ((w.legal.each es (member_at (listing bytes).steps (r.step - 1) [] among)).entries x m))
            ∙ ap (λ s. cleared s old) (sym step)

        long : L ≡ length σ
        long = w.steps ∙ sym (length-map (listing bytes).steps step_of)

        go : (b : ℕ) → q.failing ≡ counted q.first b → decided_by q n ticks L r counter ≡ decided σ r counter old b
        go zero f =
            rw (eq-eqb q.failing 0 f)
            (λ i. record {
              verdict = Accepted;
              running = record { step = following (long i) r.step; readings = after i; counter = counter };
            })
        go (suc b) f =
            let number : q.failing - q.first ≡ suc b = omega (arith, f) in
            rw (ne_eqb q.failing 0 (λ z. omega (arith, f, z))) (ap (λ m. record { verdict = TurnedAway m; running = r }) number)

  -- by progress that is so, and so many ticks
  module _ (p : Progress) (k : ℕ) (is : p ≡ progress_of r.step r.readings k bytes) (passed : k ≡ ticks) where
    same : p ≡ q
    same = is ∙ ap (λ m. progress_of r.step r.readings m bytes) passed

    pub after_first : fits n L r ≡ true → (p.failing ≡ 0 → ⊥) → p.first ≤ p.failing
    after_first can = subst (λ x. (x.failing ≡ 0 → ⊥) → x.first ≤ x.failing) (sym same) (found_after can)

    -- The scan is as due, whether the table can go on from the record or not.
    pub concluded_scan : concluded_by p n k L r counter ≡ scan_of bytes r counter
    unfolding scan_of
    concluded_scan =
        (λ i. concluded_by (same i) n (passed i) L r counter) ∙ go (fits n L r) refl ∙ sym (ap (answered_by bytes r counter) e)
      where
        refused : Scanned
        refused = refused_with r (placeless fault.Record)

        go : (b : Bool) → fits n L r ≡ b
            → cond b (decided_by q n ticks L r counter) refused ≡ cond b (scanned (cycle_of bytes) n r counter) refused
        go true can = decided_scanned can
        go false can = refl

-- a refused table
pub scan_refused : (bytes : List ℕ) (r : Running) (counter : ℕ) (f : Refusal) → read_of bytes ≡ read.Refused f
    → refused_with r f ≡ scan_of bytes r counter
unfolding scan_of
scan_refused bytes r counter f e = sym (ap (answered_by bytes r counter) e)
