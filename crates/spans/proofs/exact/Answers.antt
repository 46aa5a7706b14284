-- A plan tells the first moments, and bounds the last ones; a loop leaves no run.
use mathlib.Core.Path.{◌≡◌, refl, sym, ap, ◌∙◌}
use mathlib.Core.List.{List}
use Prim.Native.Nat.{ℕ}
use lib.ListN.{length}
use Rattle.constraints.specs.Sized.{parts_of, sized_moments}
use Rattle.sides.specs.Keys.{Numbers, keys_size}
use Rattle.leads.specs.Leads.{leads_size}
use Rattle.last_resets.specs.Distance.{distances_size}
use Rattle.plan.specs.Rows.{parts_moments, scaled_numbers, Computed, rows_computed}
use Rattle.plan.specs.Found.{rows_ready, rows_answered}
use Rattle.spans.specs.Exact.{plan_plannable, plan_room, plan_exact, loop_exact}
use borrow.Author.Rules.{rules}
use native.Mathlib.Omega.{arith}
use Rattle.spans.proofs.exact.Goals as goal
use Rattle.spans.proofs.exact.Goals.{After-put_distances, After-put_scaled, Start}

pub put_scaled-requires : goal.put_scaled-requires
put_scaled-requires c = let s = c in (c.requires.0.good, sized_moments _ _ c.requires.0, refl)

-- the constants have their numbers
numbers : (h : After-put_scaled) → Numbers h.args.t h.put_scaled.new.row
numbers h = scaled_numbers _ _ _ h.put_scaled.ensures _ h.requires.0 (omega arith)

pub put_keys-requires : goal.put_keys-requires
put_keys-requires c = let h = c in (c.requires.0.good, numbers (goal.at.put_keys-requires c).After-put_scaled, refl)

pub put_keys-requires-2 : goal.put_keys-requires-2
put_keys-requires-2 c = let h = c in (c.requires.0.good, numbers (goal.at.put_keys-requires-2 c).After-put_scaled, refl)

pub put_leads-requires : goal.put_leads-requires
put_leads-requires c = let h = c in (c.requires.0.good, numbers (goal.at.put_leads-requires c).After-put_scaled, refl)

pub put_distances-requires : goal.put_distances-requires
put_distances-requires c =
    let g = c.requires.0.good in (g.resets_size, g.steps_some, g.steps_few, refl)

-- the rows are those of the table
abbrev entry : After-put_distances → Start
entry d = (goal.at.After-put_distances d).Start

abbrev low_row : After-put_distances → List ℕ
low_row d = d.put_keys.new.row

abbrev up_row : After-put_distances → List ℕ
up_row d = d.put_keys-2.new.row

abbrev led_row : After-put_distances → List ℕ
led_row d = d.put_leads.new.row

abbrev far_row : After-put_distances → List ℕ
far_row d = d.put_distances.new.row

rows : (d : After-put_distances)
    → Computed (parts_of (entry d).args.t (entry d).args.k) (entry d).args.t (low_row d) (up_row d) (led_row d) (far_row d)
rows d =
    rows_computed _ _ _ d.put_scaled.ensures _ _ _ _
    d.put_keys.ensures
    d.put_keys-2.ensures
    d.put_leads.ensures
    (d.put_distances.ensures _ (entry d).requires.0.good refl refl)

low_size : (d : After-put_distances) → 112 ≡ length (low_row d)
low_size d = sym (ap length (rows d).below ∙ keys_size _ _)

up_size : (d : After-put_distances) → 112 ≡ length (up_row d)
up_size d = sym (ap length (rows d).above ∙ keys_size _ _)

led_size : (d : After-put_distances) → 82 ≡ length (led_row d)
led_size d = sym (ap length (rows d).led ∙ leads_size _)

far_size : (d : After-put_distances) → 112 ≡ length (far_row d)
far_size d = sym (ap length (rows d).distances ∙ distances_size _)

pub slice_bounds-solve_here-end : goal.slice_bounds-solve_here-end
slice_bounds-solve_here-end c = low_size (goal.at.slice_bounds-solve_here-end c).After-put_distances

pub slice_bounds-solve_here-end-2 : goal.slice_bounds-solve_here-end-2
slice_bounds-solve_here-end-2 c = up_size (goal.at.slice_bounds-solve_here-end-2 c).After-put_distances

pub slice_bounds-solve_here-end-3 : goal.slice_bounds-solve_here-end-3
slice_bounds-solve_here-end-3 c = led_size (goal.at.slice_bounds-solve_here-end-3 c).After-put_distances

pub slice_bounds-solve_here-end-4 : goal.slice_bounds-solve_here-end-4
slice_bounds-solve_here-end-4 c = far_size (goal.at.slice_bounds-solve_here-end-4 c).After-put_distances

pub solve_here-found-requires : goal.solve_here-found-requires
solve_here-found-requires c =
    let s = entry (goal.at.solve_here-found-requires c).After-put_distances in
    (rows_ready _ _ _ _ s.requires.0 (parts_moments _ _ _) _ _ _ _ (rows (goal.at.solve_here-found-requires c).After-put_distances), s.requires.1)

pub slice_bounds-last_moments-end : goal.slice_bounds-last_moments-end
slice_bounds-last_moments-end c = low_size (goal.at.slice_bounds-last_moments-end c).After-put_distances

pub slice_bounds-last_moments-end-in-Least : goal.slice_bounds-last_moments-end-in-Least
slice_bounds-last_moments-end-in-Least c = up_size (goal.at.slice_bounds-last_moments-end-in-Least c).After-put_distances

pub slice_bounds-last_moments-end-in-Least-2 : goal.slice_bounds-last_moments-end-in-Least-2
slice_bounds-last_moments-end-in-Least-2 c = led_size (goal.at.slice_bounds-last_moments-end-in-Least-2 c).After-put_distances

pub slice_bounds-last_moments-end-in-Least-3 : goal.slice_bounds-last_moments-end-in-Least-3
slice_bounds-last_moments-end-in-Least-3 c = far_size (goal.at.slice_bounds-last_moments-end-in-Least-3 c).After-put_distances

pub last_moments-requires : goal.last_moments-requires
last_moments-requires c =
    let z = (entry (goal.at.last_moments-requires c).After-put_distances).requires.0 in
    let a = rows_answered _ _ _ _ z (parts_moments _ _ _) _ _ _ _ (rows (goal.at.last_moments-requires c).After-put_distances) _ _ _ _ _ _ (entry (goal.at.last_moments-requires c).After-put_distances).requires.1 c.solve_here-found.result _ c.solve_here-found.ensures refl refl in
    let e = c.in-Least.is in
    (z, plan_plannable _ _ z _ _ _ a e, rows (goal.at.last_moments-requires c).After-put_distances, plan_room _ _ z _ _ _ a e (entry (goal.at.last_moments-requires c).After-put_distances).requires.1.loop)

pub returns-in-Least : goal.returns-in-Least
returns-in-Least c =
    let z = (entry (goal.at.returns-in-Least c).After-put_distances).requires.0 in
    let a = rows_answered _ _ _ _ z (parts_moments _ _ _) _ _ _ _ (rows (goal.at.returns-in-Least c).After-put_distances) _ _ _ _ _ _ (entry (goal.at.returns-in-Least c).After-put_distances).requires.1 c.solve_here-found.result _ c.solve_here-found.ensures refl refl in
    plan_exact _ _ z _ _ _ a c.in-Least.is _ _ c.last_moments.ensures

pub returns-in-Cycle : goal.returns-in-Cycle
returns-in-Cycle c =
    let z = (entry (goal.at.returns-in-Cycle c).After-put_distances).requires.0 in
    let a = rows_answered _ _ _ _ z (parts_moments _ _ _) _ _ _ _ (rows (goal.at.returns-in-Cycle c).After-put_distances) _ _ _ _ _ _ (entry (goal.at.returns-in-Cycle c).After-put_distances).requires.1 c.solve_here-found.result _ c.solve_here-found.ensures refl refl in
    loop_exact _ _ z _ _ _ a _ c.in-Cycle.is
