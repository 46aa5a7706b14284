-- The plans and loops of the samples follow from the definitions.
use Rattle.std.specs.Prelude.{◌≡◌, refl, Bool, true, ◌&&◌, ℕ, ◌+◌, ◌*◌, eqb, length}
use mathlib.Core.List.{List, Memᴰ}
use Rattle.std.proofs.Common.{eqb-true}
use Rattle.table.specs.Step.{Step, up_of, down_of, end_of}
use Rattle.wire.specs.Records.{records_from}
use Rattle.wire.specs.Listing.{listing, steps_in, step_of, guards_of, flagged}
use Rattle.runs.specs.Run.{copies, zeroed}
use Rattle.runs.specs.Demand.{Starts, any_starts, zero_starts, starts_of, demands, steps_demands}
use Rattle.runs.specs.Demand.{guards_demands, start_demands, Places}
use Rattle.runs.specs.Start.{upper_places, start_upper}
use Rattle.basics.specs.Numbers.{top}
use Rattle.runs.specs.Tools.{Every}
use Rattle.plan.specs.Answer.{moments_in, starts_in}
use Rattle.samples.specs.Samples.{Plan, Sample, samples}
use Rattle.samples.specs.Samples as said
use Rattle.asking.specs.Rounds.{clocks_of, cycle_of}
use Rattle.samples.specs.Follows.{PlanHolds}
use Rattle.samples.specs.Checks.{both, all, all_every, some, below}
use Rattle.samples.specs.Tight.{held, pinned}
use Rattle.samples.specs.PlanTest.{is_plan, plan_sound}
use Rattle.samples.specs.LoopTest.{apart, gains, is_loop, loop_sound}

-- the test of what is said of "plan for k"
abbrev pub test : ℕ → Starts → List Step → Plan → Bool
test n D τ (said.planned k P moments starts) =
    eqb (length moments) (k * length τ)
    && (eqb (length starts) n
    && (eqb P (k * length τ + n + 1)
    && is_plan P n (copies τ k) D (moments_in moments) (starts_in starts)))
test n D τ (said.looped k row bounds) = is_loop (demands n (copies τ k) D) row bounds

pub test_holds : (n : ℕ) (D : Starts) (τ : List Step) → Places n D → (p : Plan) → test n D τ p ≡ true → PlanHolds n D τ p
test_holds n D τ g (said.planned k P moments starts) e =
    let (steps, e1) = both e in
    let (clocks, e2) = both e1 in
    let (parts, plan) = both e2 in
    record {
      steps = eqb-true _ _ steps;
      clocks = eqb-true _ _ clocks;
      parts = eqb-true _ _ parts;
      planned = plan_sound P n (copies τ k) D (moments_in moments) (starts_in starts) g plan;
    }
test_holds n D τ g (said.looped k row bounds) e = loop_sound (demands n (copies τ k) D) row bounds e

-- the test of all plans and loops of a sample
abbrev tested : Sample → Bool
tested s = all (test (clocks_of s.bytes) (starts_of s.start) (cycle_of s.bytes)) s.plans

-- the whole list passes, by computation
pass : all tested samples ≡ true
unfolding samples records_from listing steps_in step_of guards_of flagged up_of down_of end_of copies zeroed
    any_starts zero_starts demands steps_demands guards_demands start_demands
    top all some below held pinned is_plan apart gains is_loop
pass = refl

-- The plans and loops that are given are plans and loops.
pub planned : (s : Sample) → Memᴰ s samples
    → Every (PlanHolds (clocks_of s.bytes) (starts_of s.start) (cycle_of s.bytes)) s.plans
planned s m p i =
    let n = clocks_of s.bytes in
    let D = starts_of s.start in
    test_holds n D _ (upper_places n D (start_upper s.start n)) p
    (all_every _ s.plans (all_every tested samples pass s m) p i)
