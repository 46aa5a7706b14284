-- The third promise: which numbers of rounds have a run, and that every plan is the earliest.
use Rattle.std.specs.Prelude.{◌↔◌, List, ℕ, ◌+◌, ◌*◌, ◌^◌, ◌≤◌, ◌<◌, get_or}
use Rattle.runs.specs.declared.Start.{Start}
use Rattle.runs.specs.Run.{Run}
use Rattle.runs.specs.Demand.{starts_of, Allowed}
use Rattle.asking.specs.Rounds.{rounds_in, RunExists}
use Rattle.plan.specs.Answer.{Rooms, moments_in, starts_in}
use Rattle.promises.specs.Told.{IsTable, RoundsSays, PlanSays, NotRefused, AllowsRounds, GivesPlan}

-- Of the numbers c that "rounds" answers for a variant of the start, put to a table: for every k, a run of k rounds exists, from a start
-- that the variant allows, exactly where they say without end or at least k. A count is below 2^32.
pub record Greatest (bytes : List ℕ) (v : Start) (c : List ℕ) : Type 0 where
  pub exists : (k : ℕ) → RunExists bytes v k ↔ AllowsRounds c k
  pub small : get_or c 2 0 < 2 ^ 32

-- Of the numbers a and the rooms that "plan for k" leaves for the same variant, put to a table with n clocks and L steps, with P = kL + n + 1:
pub record Earliest (bytes : List ℕ) (v : Start) (n L k : ℕ) (after : Rooms) (a c : List ℕ) : Type 0 where
  -- where a plan is given, no run of k rounds in P parts, from any start that the variant allows, has an earlier moment at any step,
  pub earliest : GivesPlan a (k * L + n + 1) → (t s : ℕ → ℕ) → Run (k * L + n + 1) (rounds_in bytes k) t s
      → Allowed (k * L + n + 1) (starts_of v) n s → (i : ℕ) → i ≤ k * L → moments_in after.times i ≤ t i
  -- and none with the plan's moments has a smaller start of any clock;
  pub smallest : GivesPlan a (k * L + n + 1) → (s : ℕ → ℕ)
      → Run (k * L + n + 1) (rounds_in bytes k) (moments_in after.times) s
      → Allowed (k * L + n + 1) (starts_of v) n s → (j : ℕ) → 1 ≤ j → j ≤ n → starts_in after.starts j ≤ s j
  -- and a plan that is not refused is given exactly where "rounds" says without end or at least k.
  pub given : NotRefused a → GivesPlan a (k * L + n + 1) ↔ AllowsRounds c k

-- For all bytes that are a table, all variants, all k and all rooms.
pub record Third : Type 0 where
  pub rounds : (bytes : List ℕ) (n L g : ℕ) → IsTable bytes n L g → (v : Start) (c : List ℕ) → RoundsSays bytes v c
      → Greatest bytes v c
  pub plan : (bytes : List ℕ) (n L g : ℕ) → IsTable bytes n L g → (v : Start) (c : List ℕ) → RoundsSays bytes v c
      → (k : ℕ) (before after : Rooms) (a : List ℕ) → PlanSays bytes v k before after a
      → Earliest bytes v n L k after a c
