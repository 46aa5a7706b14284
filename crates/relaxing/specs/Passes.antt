-- What the passes over the demands begin and end with.
use Rattle.std.specs.Prelude.{◌≡◌, List, ℕ, ◌+◌, ◌*◌, ◌≤◌, ◌<◌, ◌^◌, length, take}
use Rattle.basics.specs.Places.{at}
use Rattle.paths.specs.Constraint.{Constraint, All, NegativeCycle}
use Rattle.paths.specs.State.{State, Below}
use Rattle.paths.specs.Bounds.{SameSize, Room, Under}
use Rattle.paths.specs.Rises.{Rises}
use Rattle.paths.specs.Cycle.{OnCycle}
use Rattle.paths.specs.Code.{Wrote}
use Rattle.relaxing.specs.Rows.{Rows, moments, Sound}

-- What the passes begin with: for moments 0 to K 24012 times the number of moments, which is 24012 ticks or more wherever a tick has at
-- most so many parts; 0 for the last resets of the n clocks before the start; and no vertex stamped.
pub record Begins (K n : ℕ) (s : State) : Type 0 where
  pub room : Room (K + n + 1) s
  pub unstamped : (v : ℕ) → v < K + n + 1 → at s.stamp v ≡ 0
  pub now : (v : ℕ) → v ≤ K → at s.time v ≡ 24012 * (K + n + 1)
  pub past : (v : ℕ) → K < v → v < K + n + 1 → at s.time v ≡ 0

-- What they ask: the start values, and a mark for each moment.
pub record Ready (R : Rows) (s : State) (marks : List ℕ) : Type 0 where
  pub sound : Sound R
  pub begins : Begins R.total R.clocks s
  pub room : moments R ≤ length marks

-- What they end with: no time is lowered, and none raised above a solution that is not below the start. r is a vertex on a cycle of
-- parents, which is a negative cycle; or the times are a solution.
pub record Ended (N : ℕ) (cs : List Constraint) (s s' : State) (r : ℕ) : Type 0 where
  pub size : SameSize s s'
  pub under : Under N (2 ^ 62) s'.time
  pub rises : Rises s s'
  pub least : (x : ℕ → ℕ) → All cs x → Below N s.time x → Below N s'.time x
  pub cycle : r < N → OnCycle N s'.parent s'.stamp r
  pub negative : r < N → (m : ℕ) (out out' : List ℕ) → Wrote s'.parent r out out' m → NegativeCycle cs (take m out')
  pub solved : N ≤ r → All cs (at s'.time)
