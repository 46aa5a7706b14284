-- The second promise holds.
use Rattle.std.proofs.Common.{subst, arith}
use Rattle.std.specs.Prelude.{List, ℕ, ◌≤◌, length, get_or, take}
use Rattle.wire.specs.Listing.{listing}
use Rattle.format.proofs.Accepted.{accepted_counted}
use Rattle.format.specs.Fair.{legal_plain}
use Rattle.runs.specs.declared.Start.{Start}
use Rattle.runs.specs.Demand.{starts_of, Allowed}
use Rattle.runs.specs.Start.{upper_places, start_upper}
use Rattle.runs.specs.Refutes.{loop_refutes}
use Rattle.runs.specs.TwoMoments.{plains_copies, upper_apart, loop_two}
use Rattle.asking.specs.Rounds.{clocks_of, cycle_of, rounds_in, demands_in, RunExists, guards_on}
use Rattle.plan.specs.Answer.{Rooms, starts_in}
use Rattle.promises.specs.Told.{IsTable, GivesLoop}
use Rattle.promises.specs.Second.{Second}
use Rattle.promises.proofs.Plans.{clocks_are, plan_given, plan_parts, plan_or_loop}

pub loop_none : (bytes : List ℕ) (n L g : ℕ) → IsTable bytes n L g → (v : Start) (k : ℕ) (after : Rooms) (a : List ℕ)
    → GivesLoop bytes v k after a → RunExists bytes v k → ⊥
unfolding demands_in
loop_none bytes n L g t v k after a l =
    loop_refutes (clocks_of bytes) (rounds_in bytes k) (starts_of v) (take (get_or a 2 0) after.loop)
    (guards_on bytes t.small k n L g t.accepted) (upper_places (clocks_of bytes) (starts_of v) (start_upper v (clocks_of bytes)))
    l.2

-- the guards of the rounds of a table are of one clock, so a loop of them has two moments
pub loop_moments : (bytes : List ℕ) (n L g : ℕ) → IsTable bytes n L g → (v : Start) (k : ℕ) (after : Rooms) (a : List ℕ)
    → GivesLoop bytes v k after a → 2 ≤ length (take (get_or a 2 0) after.loop)
unfolding demands_in
loop_moments bytes n L g t v k after a l =
    loop_two (clocks_of bytes) (rounds_in bytes k) (starts_of v) (take (get_or a 2 0) after.loop)
    (guards_on bytes t.small k n L g t.accepted)
    (plains_copies (cycle_of bytes) k
    (legal_plain (listing bytes) (accepted_counted bytes t.small n L g t.accepted).legal))
    (upper_apart (clocks_of bytes) (starts_of v) (start_upper v (clocks_of bytes))) l.2

-- The second promise.
pub second_holds : Second
second_holds bytes n L g t v k before after a s =
    record {
      parts = λ P h. let e = plan_parts bytes n L g t v k before after a s P h in (e, omega arith);
      run = λ P h. (plan_given bytes n L g t v k before after a s P h).planned.run;
      allowed = λ P h.
          subst (λ m. Allowed P (starts_of v) m (starts_in after.starts)) (clocks_are bytes n L g t)
          (plan_given bytes n L g t v k before after a s P h).planned.allowed;
      withheld = plan_or_loop bytes n L g t v k before after a s;
      two = loop_moments bytes n L g t v k after a;
      none = loop_none bytes n L g t v k after a;
    }
