-- The second promise: every plan is a run; a plan is withheld only with a loop; a loop appears only where no run exists.
use Rattle.std.specs.Prelude.{◌≡◌, ◌⊎◌, List, ℕ, ◌+◌, ◌*◌, ◌≤◌, length, get_or, take}
use Rattle.runs.specs.declared.Start.{Start}
use Rattle.runs.specs.Run.{Run}
use Rattle.runs.specs.Demand.{starts_of, Allowed}
use Rattle.asking.specs.Rounds.{rounds_in, RunExists}
use Rattle.plan.specs.Answer.{Rooms, moments_in, starts_in}
use Rattle.promises.specs.Told.{IsTable, PlanSays, NotRefused, GivesPlan, GivesLoop}

-- Of the numbers a and the rooms that "plan for k" leaves for a variant of the start, put to a table with n clocks and L steps:
pub record PlanOrLoop (bytes : List ℕ) (v : Start) (n L k : ℕ) (after : Rooms) (a : List ℕ) : Type 0 where
  -- a plan is in P = kL + n + 1 parts to a tick, 1 or more, and what the rooms hold is a run of k rounds in P parts, from a start
  -- that the variant allows;
  pub parts : (P : ℕ) → GivesPlan a P → (P ≡ k * L + n + 1) × (1 ≤ P)
  pub run : (P : ℕ) → GivesPlan a P → Run P (rounds_in bytes k) (moments_in after.times) (starts_in after.starts)
  pub allowed : (P : ℕ) → GivesPlan a P → Allowed P (starts_of v) n (starts_in after.starts)
  -- what is not refused is a plan or a loop;
  pub withheld : NotRefused a → GivesPlan a (k * L + n + 1) ⊎ GivesLoop bytes v k after a
  -- a loop has at least two distinct moments, as long as every guard is of one clock, as the guards of every table are;
  pub two : GivesLoop bytes v k after a → 2 ≤ length (take (get_or a 2 0) after.loop)
  -- and where there is a loop no run of k rounds exists, in any parts and from any start that the variant allows.
  pub none : GivesLoop bytes v k after a → RunExists bytes v k → ⊥

-- For all bytes that are a table, all variants, all k and all rooms.
abbrev pub Second : Type 0
Second =
    (bytes : List ℕ) (n L g : ℕ) → IsTable bytes n L g
    → (v : Start) (k : ℕ) (before after : Rooms) (a : List ℕ) → PlanSays bytes v k before after a
    → PlanOrLoop bytes v n L k after a
