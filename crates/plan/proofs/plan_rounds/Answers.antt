-- The rows are those of the table, and what solving them finds is the answer.
use Rattle.std.proofs.Common.{refl, arith}
use Rattle.constraints.specs.Sized.{parts_of}
use Rattle.sides.specs.Keys.{Numbers}
use Rattle.plan.specs.Rows.{parts_moments, scaled_numbers, Computed, rows_computed}
use Rattle.plan.specs.Found.{rows_ready, rows_answered}
use Rattle.plan.proofs.plan_rounds.Goals as goal
use Rattle.plan.proofs.plan_rounds.Goals.{After-put_distances, After-put_scaled}

-- the constants have their numbers
numbers : (h : After-put_scaled) → Numbers h.args.t h.put_scaled.new.row
numbers h = scaled_numbers _ _ _ h.put_scaled.ensures _ h.requires.0 (omega arith)

pub put_keys-requires : goal.put_keys-requires
put_keys-requires c = (c.requires.0.good, numbers (goal.at.put_keys-requires c).After-put_scaled, refl)

pub put_keys-requires-2 : goal.put_keys-requires-2
put_keys-requires-2 c = (c.requires.0.good, numbers (goal.at.put_keys-requires-2 c).After-put_scaled, refl)

pub put_leads-requires : goal.put_leads-requires
put_leads-requires c = (c.requires.0.good, numbers (goal.at.put_leads-requires c).After-put_scaled, refl)

-- the rows are those of the table
rows : (d : After-put_distances)
    → Computed (parts_of d.args.t d.args.k) d.args.t d.put_keys.new.row d.put_keys-2.new.row d.put_leads.new.row d.put_distances.new.row
rows d =
    rows_computed _ _ _ d.put_scaled.ensures _ _ _ _
    d.put_keys.ensures
    d.put_keys-2.ensures
    d.put_leads.ensures
    (d.put_distances.ensures _ d.requires.0.good refl refl)

pub solve_here-found-requires : goal.solve_here-found-requires
solve_here-found-requires c =
    let r = rows (goal.at.solve_here-found-requires c).After-put_distances in
    (rows_ready _ _ _ _ c.requires.0 (parts_moments _ _ _) _ _ _ _ r, c.requires.1)

pub returns : goal.returns
returns c =
    let r = rows (goal.at.returns c).After-put_distances in
    rows_answered _ _ _ _ c.requires.0 (parts_moments _ _ _) _ _ _ _ r _ _ _ _ _ _ c.requires.1 c.solve_here-found.result _ c.solve_here-found.ensures refl
    c.told.ensures
