-- The third promise holds.
use Rattle.std.specs.Prelude.{◌≡◌, refl, ◌↔◌, ◌⊎◌, List, ℕ, ◌+◌, ◌*◌, ◌^◌, ◌<◌, get_or}
use Rattle.std.proofs.Common.{sym, subst, inl, inr, arith}
use Rattle.std.proofs.Math.Logic.Iff.{trans as iff_trans}
use Rattle.runs.specs.declared.Start.{Start}
use Rattle.runs.specs.Demand.{starts_of, Allowed}
use Rattle.asking.specs.Rounds.{clocks_of, cycle_of, RunExists}
use Rattle.rounds.specs.declared.Count.{Count}
use Rattle.rounds.specs.declared.Count.TheVariants as count
use Rattle.rounds.specs.Answer as rounds
use Rattle.plan.specs.Answer.{Rooms, moments_in, starts_in}
use Rattle.numbers.specs.Numbers.{count_numbers}
use Rattle.promises.specs.Told.{IsTable, RoundsSays, PlanSays, NotRefused, AllowsRounds, GivesPlan, GivesLoop}
use Rattle.promises.specs.Third.{Greatest, Earliest, Third}
use Rattle.promises.proofs.Plans.{count_allows, clocks_are, steps_are, plan_given, plan_or_loop}
use Rattle.promises.proofs.SecondHolds.{loop_none}

count_small : (n : ℕ) (r : Count) → ((c : ℕ) → r ≡ count.Finite c → c < 2 ^ 24) → get_or (count_numbers r) 2 0 < 2 ^ 32
count_small n (count.Finite c) h = omega (arith, h c refl)
count_small n count.Endless h = omega arith
count_small n (count.Refused f) h = omega arith

module _ (bytes : List ℕ) (n L g : ℕ) (t : IsTable bytes n L g) (v : Start) (c : List ℕ)
    (s : RoundsSays bytes v c) where
  counts : rounds.Counts (clocks_of bytes) (starts_of v) (cycle_of bytes) s.count
  counts = subst (λ q. rounds.Answers q bytes v s.count) t.accepted s.answers

  greatest : Greatest bytes v c
  greatest =
      record {
        exists = λ k.
            subst (λ l. RunExists bytes v k ↔ AllowsRounds l k) (sym s.numbers) (iff_trans (counts.runs k) (count_allows s.count k));
        small = subst (λ l. get_or l 2 0 < 2 ^ 32) (sym s.numbers) (count_small n s.count counts.small);
      }

  module _ (k : ℕ) (before after : Rooms) (a : List ℕ) (p : PlanSays bytes v k before after a) where
    given : NotRefused a → GivesPlan a (k * L + n + 1) ↔ AllowsRounds c k
    given h = ((λ e. (greatest.exists k).0 (there e)), λ m. go m (plan_or_loop bytes n L g t v k before after a p h))
      where
        there : GivesPlan a (k * L + n + 1) → RunExists bytes v k
        there e =
            let plan = plan_given bytes n L g t v k before after a p (k * L + n + 1) e in
            record {
              parts = k * L + n + 1;
              positive = omega arith;
              moments = moments_in after.times;
              starts = starts_in after.starts;
              allowed = plan.planned.allowed;
              run = plan.planned.run;
            }

        go : AllowsRounds c k → GivesPlan a (k * L + n + 1) ⊎ GivesLoop bytes v k after a → GivesPlan a (k * L + n + 1)
        go m (inl e) = e
        go m (inr l) = absurd (loop_none bytes n L g t v k after a l ((greatest.exists k).1 m))

    -- starts that are allowed for n clocks are for those of the table
    own : (s : ℕ → ℕ) → Allowed (k * L + n + 1) (starts_of v) n s → Allowed (k * L + n + 1) (starts_of v) (clocks_of bytes) s
    own s b = subst (λ m. Allowed (k * L + n + 1) (starts_of v) m s) (sym (clocks_are bytes n L g t)) b

    earliest : Earliest bytes v n L k after a c
    earliest =
        record {
          earliest = λ e u r w b i l.
              (plan_given bytes n L g t v k before after a p (k * L + n + 1) e).planned.earliest u r w (own r b) i
              (omega (arith, steps_are bytes n L g t k));
          smallest = λ e r w b j l h.
              (plan_given bytes n L g t v k before after a p (k * L + n + 1) e).planned.smallest r w (own r b) j l
              (omega (arith, clocks_are bytes n L g t));
          given = given;
        }

-- The third promise.
pub third_holds : Third
third_holds =
    record {
      rounds = λ bytes n L g t v c s. greatest bytes n L g t v c s;
      plan = λ bytes n L g t v c s k before after a p. earliest bytes n L g t v c s k before after a p;
    }
