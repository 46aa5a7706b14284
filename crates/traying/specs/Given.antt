-- A tray that is given to a table by value, one scan after the other.
use Rattle.std.specs.Prelude.{◌≡◌, refl, Bool, true, false, cond, ℕ, suc, ◌+◌, ◌≤◌, ◌<◌, eqb, length, get_or, set}
use Rattle.std.proofs.Math.Path.{sym, ap}
use Rattle.std.proofs.Common.{◌∙◌, arith, add-one, length-set, drop-cons, ne_eqb}
use mathlib.Core.List.{List, [], ◌∷◌, ◌++◌}
use Rattle.std.proofs.Math.ListN.{drop, drop_of_length-le}
use Rattle.std.proofs.lemmas.List.{length-map}
use Rattle.std.proofs.Math.Seq.{sets}
use Rattle.std.proofs.lemmas.List.Edits.{sets-eq}
use Rattle.table.specs.Refusal.{placeless}
use Rattle.table.specs.declared.Fault.{Fault}
use Rattle.table.specs.declared.Fault.TheVariants as fault
use Rattle.table.specs.declared.Table.{Table}
use Rattle.table.specs.Step.{steps_of, Good}
use Rattle.table.specs.Steps.{length_steps}
use Rattle.scans.specs.declared.Running.{Running}
use Rattle.scans.specs.declared.Scanned.{Scanned}
use Rattle.scans.specs.declared.Verdict.{Verdict}
use Rattle.scans.specs.Scan.{scanned, fits}
use Rattle.scans.specs.Going.{fits_scanned}
use Rattle.trays.specs.declared.Outcome.{Outcome}
use Rattle.trays.specs.declared.Outcome.TheVariants.{Counted, Refused}
use Rattle.trays.specs.declared.Trayed.{Trayed}
use Rattle.trays.specs.Tray.{verdicts_by, running_by, verdict_number, verdict_row, accepted_in}
use Rattle.trays.specs.Answer.{counted_by, unless}
use Rattle.trays.proofs.Laws.{Told, accepted, turned, scanned_told, length_verdicts, admitted_not, admitted_many, admitted_short, admitted_all}

-- what a table by value gives for one scan
abbrev pub scan_by : Table → Running → ℕ → Scanned
scan_by t = scanned (steps_of t) t.clocks

-- the outcome of a tray
abbrev pub outcome_in : Table → Running → List ℕ → ℕ → Outcome
outcome_in t r counters places = counted_by (scan_by t) t.clocks t.steps r counters places

-- What is told of a tray, and how the room is left.
pub record Given (t : Table) (r : Running) (counters room : List ℕ) (told : Trayed) (after : List ℕ) : Type 0 where
  pub outcome : told.outcome ≡ outcome_in t r counters (length room)
  pub running : told.running ≡ unless (outcome_in t r counters (length room)) r (running_by (scan_by t) r counters)
  pub verdicts : after
      ≡ unless (outcome_in t r counters (length room)) room (verdict_row (verdicts_by (scan_by t) r counters) ++ drop (length counters) room)

-- ---- scan by scan

-- one more verdict, counted
counted_one : {v : Verdict} → Told v → (vs : List Verdict) → accepted_in (v ∷ vs) ≡ cond (eqb (verdict_number v) 0) 1 0 + accepted_in vs
unfolding accepted_in
counted_one accepted vs = omega arith
counted_one (turned b) vs = rw (ne_eqb (suc b) 0 (λ z. omega arith)) (omega arith)

module _ (t : Table) (counters room : List ℕ) (running : Running) where
  -- The first i scans have been given: the record, the room and the number accepted by then.
  pub record GivenTo (verdicts : List ℕ) (r : Running) (number i : ℕ) : Type 0 where
    pub order : i ≤ length counters
    pub can : fits t.clocks t.steps r ≡ true
    pub size : length verdicts ≡ length room
    pub few : number ≤ i
    pub after : running_by (scan_by t) r (drop i counters) ≡ running_by (scan_by t) running counters
    pub row : sets verdicts i (verdict_row (verdicts_by (scan_by t) r (drop i counters)))
        ≡ sets room 0 (verdict_row (verdicts_by (scan_by t) running counters))
    pub count : number + accepted_in (verdicts_by (scan_by t) r (drop i counters)) ≡ accepted_in (verdicts_by (scan_by t) running counters)

  -- none yet
  pub given_none : fits t.clocks t.steps running ≡ true → GivenTo room running 0 0
  given_none can =
      record { order = omega arith; can = can; size = refl; few = omega arith; after = refl; row = refl; count = omega arith }

  -- one more
  module _ (good : Good t) (verdicts : List ℕ) (r next : Running) (number i failing one : ℕ) (more : i < length counters) where
    -- what is given for it
    abbrev c : ℕ
    c = get_or counters i 0

    abbrev told : Scanned
    told = scan_by t r c

    -- the scans left
    split : drop i counters ≡ c ∷ drop (i + 1) counters
    split = drop-cons counters i 0 more ∙ ap (λ k. c ∷ drop k counters) (sym (add-one i))

    abbrev rest : List Verdict
    rest = verdicts_by (scan_by t) told.running (drop (i + 1) counters)

    verdicts_split : verdicts_by (scan_by t) r (drop i counters) ≡ told.verdict ∷ rest
    unfolding verdicts_by
    verdicts_split = ap (verdicts_by (scan_by t) r) split

    running_split : running_by (scan_by t) r (drop i counters) ≡ running_by (scan_by t) told.running (drop (i + 1) counters)
    unfolding running_by
    running_split = ap (running_by (scan_by t) r) split

    pub given_more : failing ≡ verdict_number told.verdict → next ≡ told.running → one ≡ cond (eqb failing 0) 1 0 → GivenTo verdicts r number i
        → GivenTo (set verdicts i failing) next (number + one) (i + 1)
    given_more number_is next_is one-is g =
        rw (number_is, next_is)
        (record {
          order = omega arith;
          can = fits_scanned (steps_of t) t.clocks t.steps r c good.clocks_few (length_steps t) g.can;
          size = length-set verdicts i (verdict_number told.verdict) ∙ g.size;
          few = omega (arith, g.few, small);
          after = sym running_split ∙ g.after;
          row =
              ap (λ k. sets (set verdicts i (verdict_number told.verdict)) k (verdict_row rest)) (add-one i)
              ∙ ap (λ vs. sets verdicts i (verdict_row vs)) (sym verdicts_split)
              ∙ g.row;
          count = omega (arith, g.count, ap accepted_in verdicts_split, counted_one (scanned_told (steps_of t) t.clocks r c) rest, one_told);
        })
      where
        one_told : one ≡ cond (eqb (verdict_number told.verdict) 0) 1 0
        one_told = one-is ∙ ap (λ b. cond (eqb b 0) 1 0) number_is

        bit : (b : Bool) → cond b 1 0 ≤ 1
        bit true = omega arith
        bit false = omega arith

        small : one ≤ 1
        small = omega (arith, one-is, bit (eqb failing 0))

  -- all of them
  pub given_all : (verdicts : List ℕ) (r : Running) (number i : ℕ) → length counters ≤ i → GivenTo verdicts r number i
      → (number ≡ accepted_in (verdicts_by (scan_by t) running counters)) × (r ≡ running_by (scan_by t) running counters)
      × (verdicts ≡ sets room 0 (verdict_row (verdicts_by (scan_by t) running counters)))
  unfolding verdicts_by running_by accepted_in
  given_all verdicts r number i h g = (
    omega (arith, sym (ap (λ cs. accepted_in (verdicts_by (scan_by t) r cs)) none), g.count),
    ap (running_by (scan_by t) r) (sym none) ∙ g.after,
    ap (λ cs. sets verdicts i (verdict_row (verdicts_by (scan_by t) r cs))) (sym none) ∙ g.row,
  )
    where
      none : drop i counters ≡ []
      none = drop_of_length-le counters h

-- ---- the tests of a tray
module _ (t : Table) (r : Running) (counters room : List ℕ) where
  -- the row of verdicts in the room
  abbrev filled : List ℕ
  filled = verdict_row (verdicts_by (scan_by t) r counters) ++ drop (length counters) room

  -- what is told, by the outcome
  told_by : (o : Outcome) → o ≡ outcome_in t r counters (length room) → (told : Trayed) (after : List ℕ) → told.outcome ≡ o
      → told.running ≡ unless o r (running_by (scan_by t) r counters) → after ≡ unless o room filled → Given t r counters room told after
  told_by o is told after a b c =
      record {
        outcome = a ∙ is;
        running = b ∙ ap (λ x. unless x r (running_by (scan_by t) r counters)) is;
        verdicts = c ∙ ap (λ x. unless x room filled) is;
      }

  -- refused with a fault
  refused_with_lem : (f : Fault) → Refused (placeless f) ≡ outcome_in t r counters (length room) → (told : Trayed)
      → told ≡ record { outcome = Refused (placeless f); running = r } → Given t r counters room told room
  refused_with_lem f is told e = told_by (Refused (placeless f)) is told room (ap (λ x. x.outcome) e) (ap (λ x. x.running) e) refl

  pub given_record : fits t.clocks t.steps r ≡ false → (told : Trayed)
      → told ≡ record { outcome = Refused (placeless fault.Record); running = r } → Given t r counters room told room
  given_record cannot = refused_with_lem fault.Record (sym (admitted_not t.clocks t.steps r counters (length room) _ cannot))

  module _ (can : fits t.clocks t.steps r ≡ true) where
    pub given_tray : 256 < length counters → (told : Trayed)
        → told ≡ record { outcome = Refused (placeless fault.Tray); running = r } → Given t r counters room told room
    given_tray many = refused_with_lem fault.Tray (sym (admitted_many t.clocks t.steps r counters (length room) _ can many))

    pub given_verdicts : length counters ≤ 256 → length room < length counters → (told : Trayed)
        → told ≡ record { outcome = Refused (placeless fault.Verdicts); running = r } → Given t r counters room told room
    given_verdicts few short =
        refused_with_lem fault.Verdicts (sym (admitted_short t.clocks t.steps r counters (length room) _ can few short))

    -- it is not refused
    pub given_scans : length counters ≤ 256 → length counters ≤ length room → (told : Trayed) (after : List ℕ)
        → told.outcome ≡ Counted (accepted_in (verdicts_by (scan_by t) r counters)) → told.running ≡ running_by (scan_by t) r counters
        → after ≡ sets room 0 (verdict_row (verdicts_by (scan_by t) r counters)) → Given t r counters room told after
    given_scans few enough told after a b c =
        told_by (Counted (accepted_in (verdicts_by (scan_by t) r counters)))
        (sym (admitted_all t.clocks t.steps r counters (length room) _ can few enough)) told after a b
        (c ∙ sets-eq (verdict_row (verdicts_by (scan_by t) r counters)) room 0 (omega (arith, size))
        ∙ ap (λ k. verdict_row (verdicts_by (scan_by t) r counters) ++ drop k room) from_0)
      where
        size : length (verdict_row (verdicts_by (scan_by t) r counters)) ≡ length counters
        size = length-map (verdicts_by (scan_by t) r counters) verdict_number ∙ length_verdicts (scan_by t) r counters

        from_0 : 0 + length (verdict_row (verdicts_by (scan_by t) r counters)) ≡ length counters
        from_0 = omega (arith, size)
