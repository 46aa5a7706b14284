-- The worked cases of two clocks follow from the definitions.
use Rattle.std.specs.Prelude.{◌≡◌, refl, Bool, true, false, ℕ, ℤ, pos, neg_ℤ}
use mathlib.Core.List.{List, [], ◌∷◌, Memᴰ}
use Rattle.table.specs.declared.Guard.{Guard}
use Rattle.table.specs.declared.Relation.{Relation}
use Rattle.table.specs.declared.Relation.TheVariants.{Under, AtMost, Exactly, AtLeast, Over}
use Rattle.table.specs.Step.{Step, up_of, down_of, end_of}
use Rattle.runs.specs.declared.Start.{Start}
use Rattle.runs.specs.declared.Start.TheVariants.{LogIn, MidShift}
use Rattle.runs.specs.Run.{copies, zeroed}
use Rattle.runs.specs.Demand.{any_starts, zero_starts, starts_of, demands, steps_demands, guards_demands, start_demands}
use Rattle.runs.specs.Start.{upper_places, start_upper}
use Rattle.runs.specs.Tools.{Every}
use Rattle.basics.specs.Numbers.{top}
use Rattle.samples.specs.Samples.{Plan, planned, looped}
use Rattle.samples.specs.Follows.{PlanHolds}
use Rattle.samples.specs.Checks.{all, all_every, some, below}
use Rattle.samples.specs.Tight.{held, pinned}
use Rattle.samples.specs.PlanTest.{is_plan}
use Rattle.samples.specs.LoopTest.{apart, gains, is_loop}
use Rattle.samples.proofs.Plans.{test, test_holds}
use Rattle.samples.specs.TwoClocks.{Case, cases}

-- the whole list passes, by computation
pass : all (λ (c : Case). all (test c.clocks (starts_of c.start) c.steps) c.plans) cases ≡ true
unfolding cases up_of down_of end_of copies zeroed any_starts zero_starts demands steps_demands guards_demands start_demands
    top all some below held pinned is_plan apart gains is_loop
pass = refl

-- The plans and loops that are given are plans and loops.
pub cases_follow : (c : Case) → Memᴰ c cases → Every (PlanHolds c.clocks (starts_of c.start) c.steps) c.plans
cases_follow c m p i =
    let n = c.clocks in
    let D = starts_of c.start in
    test_holds n D c.steps (upper_places n D (start_upper c.start n)) p
    (all_every _ c.plans (all_every (λ (c : Case). all (test c.clocks (starts_of c.start) c.steps) c.plans) cases pass c m) p i)
