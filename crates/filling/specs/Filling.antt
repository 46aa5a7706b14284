-- The table by value, and what one record more makes of it.
use Rattle.std.specs.Prelude.{true, false, cond, ℕ, ◌+◌, ◌*◌, ltb, get_or, set, replicate}
use Rattle.table.specs.declared.Guard.{Guard}
use Rattle.table.specs.declared.Relation.TheVariants.{Under}
use Rattle.table.specs.declared.Table.{Table}

abbrev pub no_guard : Guard
no_guard = record { clock = 0; second = 0; relation = Under; minus = false; constant = 0 }

-- no step yet
unfoldable pub empty : Table
empty = record { clocks = 0; steps = 0; guards = replicate 64 no_guard; ends = replicate 18 0; resets = replicate 119 false }

-- the number of guards so far, kept at the end of the step that is under way
abbrev pub guards_so_far : Table → ℕ
guards_so_far t = get_or t.ends (t.steps + 1) 0

unfoldable pub put_head : ℕ → Table → Table
put_head n t = record { clocks = n; steps = t.steps; guards = t.guards; ends = t.ends; resets = t.resets }

-- what does not fit is left out; in accepted tables everything fits
unfoldable pub put_guard : Guard → Table → Table
put_guard g t =
    cond (ltb t.steps 17) (cond (ltb (guards_so_far t) 64)
    (record {
      clocks = t.clocks;
      steps = t.steps;
      guards = set t.guards (guards_so_far t) g;
      ends = set t.ends (t.steps + 1) (guards_so_far t + 1);
      resets = t.resets;
    }) t) t

unfoldable pub put_reset : ℕ → Table → Table
put_reset j t =
    cond (ltb t.steps 17) (cond (ltb j 7)
    (record {
      clocks = t.clocks;
      steps = t.steps;
      guards = t.guards;
      ends = t.ends;
      resets = set t.resets (7 * t.steps + j) true;
    }) t) t

unfoldable pub put_step : Table → Table
put_step t =
    cond (ltb t.steps 16)
    (record {
      clocks = t.clocks;
      steps = t.steps + 1;
      guards = t.guards;
      ends = set t.ends (t.steps + 2) (guards_so_far t);
      resets = t.resets;
    }) t
