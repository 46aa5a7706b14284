-- A tray given for bytes: they are refused, or accepted, and then it is given to the table by value.
use Rattle.std.specs.Prelude.{◌≡◌, refl, Bool, true, false, List, ◌++◌, ℕ, length}
use Rattle.std.proofs.Math.Path.{sym, ap}
use Rattle.std.proofs.Common.{◌∙◌}
use Rattle.std.proofs.Math.ListN.{drop}
use Rattle.table.specs.declared.Read.{Read}
use Rattle.table.specs.declared.Read.TheVariants as read
use Rattle.table.specs.declared.Refusal.{Refusal}
use Rattle.table.specs.declared.Table.{Table}
use Rattle.table.specs.Step.{steps_of, Good}
use Rattle.table.specs.Steps.{length_steps}
use Rattle.wire.specs.Records.{Bytes}
use Rattle.wire.specs.Reading.{read_of}
use Rattle.runs.specs.Demand.{Clocks}
use Rattle.decode.specs.Fill.{table_of}
use Rattle.decode.specs.Meaning.{Means, accepted_means}
use Rattle.scans.specs.declared.Running.{Running}
use Rattle.scans.specs.declared.Verdict.{Verdict}
use Rattle.scans.specs.Scan.{fits, scanned}
use Rattle.scans.specs.Answer.{scan_of}
use Rattle.scans.specs.Going.{scan_judged, fits_scanned}
use Rattle.trays.specs.declared.Outcome.{Outcome}
use Rattle.trays.specs.declared.Outcome.TheVariants.{Counted, Refused}
use Rattle.trays.specs.declared.Trayed.{Trayed}
use Rattle.trays.specs.Tray.{verdicts_by, running_by, verdict_row, accepted_in}
use Rattle.trays.specs.Answer.{admitted, outcome_by, outcome_of, unless, running_of, verdicts_of}
use Rattle.trays.proofs.Laws.{verdicts_same, running_same, admitted_not}
use Rattle.traying.specs.Given.{scan_by, outcome_in, Given}

module _ (bytes : List ℕ) (r : Running) (counters room : List ℕ) (a : Read) (e : a ≡ read_of bytes) where
  -- What is to be told of a tray, and how the room is to be left.
  abbrev pub Told : Outcome → Running → List ℕ → Type 0
  Told o after row =
      (o ≡ outcome_of bytes r counters (length room)) × (after ≡ running_of bytes r counters (length room))
      × (row ≡ verdicts_of bytes r counters room)

  -- by the outcome
  told_by : (o : Outcome) → o ≡ outcome_of bytes r counters (length room)
      → Told o (unless o r (running_by (scan_of bytes) r counters))
      (unless o room (verdict_row (verdicts_by (scan_of bytes) r counters) ++ drop (length counters) room))
  unfolding running_of verdicts_of
  told_by o is = (
    is,
    ap (λ x. unless x r (running_by (scan_of bytes) r counters)) is,
    ap (λ x. unless x room (verdict_row (verdicts_by (scan_of bytes) r counters) ++ drop (length counters) room)) is,
  )

  pub told_refused : (f : Refusal) → a ≡ read.Refused f → Told (Refused f) r room
  unfolding outcome_of
  told_refused f q = told_by (Refused f) (sym (ap (outcome_by bytes r counters (length room)) (sym e ∙ q)))

  -- accepted bytes
  module _ (t : Table) (s : t ≡ table_of bytes) (small : Bytes bytes) (n L g : ℕ) (q : a ≡ read.Counted n L g) where
    counted : read_of bytes ≡ read.Counted n L g
    counted = sym e ∙ q

    means : Means bytes t n L g
    means = accepted_means bytes small n L g counted t s

    pub accepted_good : Good t
    accepted_good = means.good

    pub accepted_clocks : Clocks t.clocks (steps_of t)
    accepted_clocks = means.guarded

    -- a record that the table can go on from
    abbrev Goes : Running → Type 0
    Goes r = fits t.clocks t.steps r ≡ true

    -- one scan from it
    scan_is : (r : Running) (c : ℕ) → Goes r → scan_by t r c ≡ scan_of bytes r c
    scan_is r c can =
        (λ i. scanned (means.same i) (means.clocks i) r c)
        ∙ sym (scan_judged bytes n L g counted r c (sym (λ i. fits (means.clocks i) (means.steps i) r) ∙ can))

    scan_fits : (r : Running) (c : ℕ) → Goes r → Goes (scan_by t r c).running
    scan_fits r c = fits_scanned (steps_of t) t.clocks t.steps r c accepted_good.clocks_few (length_steps t)

    -- the outcome, by the verdicts
    abbrev by_verdicts : List Verdict → ℕ → ℕ → Outcome
    by_verdicts vs n L = admitted n L r counters (length room) (Counted (accepted_in vs))

    abbrev o : Outcome
    o = outcome_in t r counters (length room)

    -- of the bytes it is the same
    outcome_of_lem : by_verdicts (verdicts_by (scan_of bytes) r counters) t.clocks t.steps ≡ outcome_of bytes r counters (length room)
    unfolding outcome_of
    outcome_of_lem =
        (λ i. by_verdicts (verdicts_by (scan_of bytes) r counters) (means.clocks i) (means.steps i))
        ∙ sym (ap (outcome_by bytes r counters (length room)) counted)

    -- Where the table can go on from the record, the scans are the same; where it cannot, they do not matter.
    module _ (A : Type 0) (was is are : A) where
      alike : (b : Bool) → fits t.clocks t.steps r ≡ b → (Goes r → is ≡ are) → unless o was is ≡ unless o was are
      alike true can same = ap (unless o was) (same can)
      alike false cannot same =
          let none = admitted_not t.clocks t.steps r counters (length room) _ cannot in
          ap (λ x. unless x was is) none ∙ sym (ap (λ x. unless x was are) none)

    outcome_is : o ≡ outcome_of bytes r counters (length room)
    outcome_is = go (fits t.clocks t.steps r) refl ∙ outcome_of_lem
      where
        go : (b : Bool) → fits t.clocks t.steps r ≡ b → o ≡ by_verdicts (verdicts_by (scan_of bytes) r counters) t.clocks t.steps
        go true can = ap (λ vs. by_verdicts vs t.clocks t.steps) (verdicts_same (scan_by t) (scan_of bytes) Goes scan_fits scan_is r counters can)
        go false cannot =
            admitted_not t.clocks t.steps r counters (length room) _ cannot
            ∙ sym (admitted_not t.clocks t.steps r counters (length room) _ cannot)

    -- What is given to the table is told.
    pub told_given : (told : Trayed) (after : List ℕ) → Given t r counters room told after → Told told.outcome told.running after
    told_given told after g =
        let all = told_by o outcome_is in (
          g.outcome ∙ all.0,
          g.running
              ∙ alike Running r _ _ (fits t.clocks t.steps r) refl (running_same (scan_by t) (scan_of bytes) Goes scan_fits scan_is r counters)
              ∙ all.1,
          g.verdicts
              ∙ alike (List ℕ) room _ _ (fits t.clocks t.steps r) refl
              (λ can. ap (λ vs. verdict_row vs ++ drop (length counters) room) (verdicts_same (scan_by t) (scan_of bytes) Goes scan_fits scan_is r counters can))
              ∙ all.2,
        )
