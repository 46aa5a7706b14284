-- One scan, tested by the readings that the guards allow, is the scan of the table.
use Rattle.std.specs.Prelude.{◌≡◌, refl, true, false, cond, map, take, drop}
use Rattle.std.specs.Option.{unwrap_or}
use Rattle.std.proofs.lemmas.List.{drop-map, take-map, drop-take, length-take}
use Rattle.table.specs.declared.Guard.{Guard}
use Rattle.std.proofs.Math.Path.{sym, ap}
use Rattle.std.proofs.Common.{◌∙◌, arith, get_or-drop, get_or-take, ne_eqb}
use mathlib.Core.List.{List, [], Memᴰ}
use Prim.Native.Nat.{ℕ, zero, suc, ◌+◌, ◌-◌, ◌*◌, ◌≤◌, ◌<◌}
use Rattle.std.proofs.Math.ListN.{length, get_or}
use Rattle.std.proofs.Math.Seq.{slice}
use Rattle.basics.specs.Tab.{length_tab, get_d_tab, is_tab}
use Rattle.table.specs.declared.Table.{Table}
use Rattle.table.specs.Step.{Step, step_at, steps_of, Good}
use Rattle.table.specs.Steps.{length_steps, steps_at, step_member}
use Rattle.ticks.specs.Ticks.{elapsed_of}
use Rattle.runs.specs.Demand.{Clocks}
use Rattle.scans.specs.declared.Running.{Running}
use Rattle.scans.specs.Scan.{first_failing, aged, cleared, due, following, decided, scanned, fits}
use Rattle.scans.specs.Held.{aged_at, fits_step}
use Rattle.trays.specs.Tray.{verdict_number}
use Rattle.ranges.specs.declared.Range.{Range}
use Rattle.ranges.specs.Allowed.{range_of, ranges_of, Asked, first_outside, asked_clocks, inside_few, held_failing}
use Rattle.traying.specs.Moved.{cleared_at, moved_on}

-- the readings after the resets of a step, by its flags among those of all steps
cleared_at_lem : (t : Table) (i : ℕ) (readings : List ℕ) → length t.resets ≡ 119 → i < 16
    → cleared_at t.resets i readings ≡ cleared (step_at t i) readings
unfolding cleared_at cleared step_at
cleared_at_lem t i readings size few =
    is_tab 6 (λ j. cond (get_or (slice (7 * i) (7 * i + 7) t.resets) (j + 1) false) 0 (get_or readings j 0)) _ (length_tab _ 6)
    (λ j l. get_d_tab _ 6 j l ∙ ap (λ b. cond b 0 (get_or readings j 0)) (sym (flag j l)))
  where
    flag : (j : ℕ) → j < 6 → get_or (slice (7 * i) (7 * i + 7) t.resets) (j + 1) false ≡ get_or t.resets (7 * i + j + 1) false
    flag j l =
        let e : 7 * i + (j + 1) ≡ 7 * i + j + 1 = omega arith in
        get_or-drop (7 * i) (take (7 * i + 7) t.resets) (j + 1) false
        ∙ get_or-take (7 * i + 7) t.resets (7 * i + (j + 1)) false (omega arith)
        ∙ ap (λ k. get_or t.resets k false) e

-- the verdict's number, and the record, by the number of the first guard that failed
decided_number : (σ : List Step) (r : Running) (counter : ℕ) (readings : List ℕ) (b : ℕ) → verdict_number (decided σ r counter readings b).verdict ≡ b
decided_number σ r counter readings zero = refl
decided_number σ r counter readings (suc b) = refl

-- the step that is due, and the places of its guards
pub due_places : (t : Table) (r : Running) → Good t → fits t.clocks t.steps r ≡ true
    → (1 ≤ r.step) × (r.step ≤ t.steps) × (t.steps ≤ 16)
    × (get_or t.ends (r.step - 1) 0 ≤ get_or t.ends r.step 0) × (get_or t.ends r.step 0 ≤ 64)
due_places t r good can =
    let range = fits_step t.clocks t.steps r can in
    let e : r.step - 1 + 1 ≡ r.step = omega arith in (
      range.0,
      range.1,
      good.steps_few,
      omega (arith, good.order (r.step - 1) (omega arith), ap (λ k. get_or t.ends k 0) e),
      good.room r.step range.1,
    )

-- the part of some ranges that has those of its guards
abbrev pub due_part : Table → Running → List Range → List Range
due_part t r rs = let from = get_or t.ends (r.step - 1) 0 in take (get_or t.ends r.step 0 - from) (drop from rs)

-- the readings that have aged
abbrev pub old : Table → Running → ℕ → List ℕ
old t r counter = aged t.clocks (elapsed_of r.counter counter) r.readings

-- the number of the first guard outside, or 0
abbrev pub failing : Table → Running → ℕ → ℕ
failing t r counter = unwrap_or (first_outside (old t r counter) (due_part t r (ranges_of t))) 0

-- an accepted table, a record that it can go on from, and a counter
module _ (t : Table) (good : Good t) (own : Clocks t.clocks (steps_of t)) (r : Running) (can : fits t.clocks t.steps r ≡ true) (counter : ℕ) where
  pub range : (1 ≤ r.step) × (r.step ≤ t.steps)
  range = fits_step t.clocks t.steps r can

  -- the step that is due, from 0, and its guards, from one place up to another
  abbrev i : ℕ
  i = r.step - 1

  abbrev pub from : ℕ
  from = get_or t.ends (r.step - 1) 0

  abbrev pub to : ℕ
  to = get_or t.ends r.step 0

  few : i < t.steps
  few = omega (arith, range.0, range.1)

  next : i + 1 ≡ r.step
  next = omega (arith, range.0)

  end : get_or t.ends (i + 1) 0 ≡ to
  end = ap (λ k. get_or t.ends k 0) next

  order : from ≤ to
  order = omega (arith, good.order i few, end)

  room : to ≤ 64
  room = good.room r.step range.1

  step_due : due (steps_of t) r.step ≡ step_at t i
  step_due = steps_at t i (record { guards = []; flags = [] }) few

  -- its guards
  abbrev gs : List Guard
  gs = (due (steps_of t) r.step).guards

  gs_lem : gs ≡ slice from to t.guards
  unfolding step_at
  gs_lem = ap (λ s. s.guards) step_due ∙ ap (λ k. slice from k t.guards) end

  -- are on clocks that the table has
  on_clocks : (g : Guard) → Memᴰ g gs → (0 < g.clock) × (g.clock ≤ t.clocks)
  on_clocks g m =
      let c = own (due (steps_of t) r.step) (rw step_due (step_member t i few)) g m in (c.0, c.1)

  -- and their ranges are a part of all
  abbrev part : List Range
  part = due_part t r (ranges_of t)

  part_lem : part ≡ map range_of gs
  part_lem =
      let e : from + (to - from) ≡ to = omega (arith, order) in
      ap (take (to - from)) (drop-map range_of from t.guards)
      ∙ take-map range_of (to - from) (drop from t.guards)
      ∙ ap (map range_of) (sym (drop-take from (to - from) t.guards) ∙ ap (λ k. slice from k t.guards) e ∙ sym gs_lem)

  pub scan_asked : Asked part
  scan_asked =
      rw part_lem (asked_clocks gs (λ g m. let c = on_clocks g m in (omega (arith, c.0), omega (arith, c.1, good.clocks_few))))

  -- the readings that have aged
  abbrev now : List ℕ
  now = old t r counter

  held : (g : Guard) → Memᴰ g gs → get_or now (g.clock - 1) 0 ≤ 4001
  held g m =
      let c = on_clocks g m in
      omega (arith, aged_at t.clocks (elapsed_of r.counter counter) r.readings (g.clock - 1) good.clocks_few (omega (arith, c.0, c.1)))

  abbrev number : ℕ
  number = failing t r counter

  pub scan_few : number ≤ 64
  scan_few = omega (arith, inside_few now part, length-take {A = Range} (to - from) (drop from (ranges_of t)), room)

  -- It is that of the first that does not hold.
  pub scan_failing : number ≡ first_failing 0 gs now
  scan_failing = ap (λ rs. unwrap_or (first_outside now rs) 0) part_lem ∙ held_failing now gs held

  -- So it tells the verdict, and the record after the scan.
  pub scan_number : number ≡ verdict_number (scanned (steps_of t) t.clocks r counter).verdict
  unfolding scanned
  scan_number = scan_failing ∙ sym (decided_number (steps_of t) r counter now _)

  pub scan_moved : moved_on t.steps t.resets r counter now number ≡ (scanned (steps_of t) t.clocks r counter).running
  unfolding scanned moved_on
  scan_moved = go number ∙ ap (λ b. (decided (steps_of t) r counter now b).running) scan_failing
    where
      go : (b : ℕ) → moved_on t.steps t.resets r counter now b ≡ (decided (steps_of t) r counter now b).running
      go zero = λ j.
          record {
            step = following (sym (length_steps t) j) r.step;
            readings = (cleared_at_lem t i now good.resets_size (omega (arith, few, good.steps_few)) ∙ ap (λ s. cleared s now) (sym step_due)) j;
            counter = counter;
          }
      go (suc b) = rw (ne_eqb (suc b) 0 (λ z. omega arith))
