-- Worked cases of guards between two clocks, which no table has yet: steps, the variant of the start, and plans and loops of them.
use Rattle.std.specs.Prelude.{◌≡◌, refl, Bool, true, false, ℕ, ℤ, pos, neg_ℤ}
use mathlib.Core.List.{List, [], ◌∷◌, Memᴰ}
use Rattle.table.specs.declared.Guard.{Guard}
use Rattle.table.specs.declared.Relation.{Relation}
use Rattle.table.specs.declared.Relation.TheVariants.{Under, AtMost, Exactly, AtLeast, Over}
use Rattle.table.specs.Step.{Step, up_of, down_of, end_of}
use Rattle.runs.specs.declared.Start.{Start}
use Rattle.runs.specs.declared.Start.TheVariants.{LogIn, MidShift}
use Rattle.runs.specs.Run.{copies, zeroed}
use Rattle.runs.specs.Demand.{any_starts, zero_starts, starts_of, demands, steps_demands, guards_demands, start_demands}
use Rattle.runs.specs.Start.{upper_places, start_upper}
use Rattle.runs.specs.Tools.{Every}
use Rattle.basics.specs.Numbers.{top}
use Rattle.samples.specs.Samples.{Plan, planned, looped}
use Rattle.samples.specs.Follows.{PlanHolds}
use Rattle.samples.specs.Checks.{all, all_every, some, below}
use Rattle.samples.specs.Tight.{held, pinned}
use Rattle.samples.specs.PlanTest.{is_plan}
use Rattle.samples.specs.LoopTest.{apart, gains, is_loop}

-- Steps with clocks 1 to n, a variant of the start, and what is said of them.
pub record Case : Type 0 where
  pub clocks : ℕ
  pub steps : List Step
  pub start : Start
  pub plans : List Plan

abbrev worked : ℕ → List Step → Start → List Plan → Case
worked n σ v p = record { clocks = n; steps = σ; start = v; plans = p }

-- clock i less clock j is compared with c, or with −c
abbrev lead : ℕ → ℕ → Relation → ℕ → Guard
lead i j r c = record { clock = i; second = j; relation = r; minus = false; constant = c }

abbrev behind : ℕ → ℕ → Relation → ℕ → Guard
behind i j r c = record { clock = i; second = j; relation = r; minus = true; constant = c }

-- a step with these guards, and whether it resets clocks 1 and 2
abbrev step : List Guard → Bool → Bool → Step
step gs x y = record { guards = gs; flags = false ∷ x ∷ y ∷ [] }

-- −c
abbrev less : ℕ → ℤ
less c = neg_ℤ (pos c)

-- Clock 1 is x, clock 2 is y, clock 3 is z.
unfoldable pub cases : List Case
cases =
    -- zero x and y; then x − y at most −1, under 0, at least 1: a demand from a moment to itself, and a loop of one moment
    worked 2 (step [] true true ∷ step (behind 1 2 AtMost 1 ∷ []) false false ∷ []) MidShift (looped 1 (1 ∷ []) (less 1 ∷ []) ∷ [])
    ∷ worked 2 (step [] true true ∷ step (lead 1 2 Under 0 ∷ []) false false ∷ []) LogIn (looped 1 (1 ∷ []) (pos 0 ∷ []) ∷ [])
    ∷ worked 2 (step [] true true ∷ step (lead 1 2 AtLeast 1 ∷ []) false false ∷ []) LogIn (looped 1 (1 ∷ []) (less 1 ∷ []) ∷ [])
    -- x − y at most 5, at least −5 and exactly 0 ask nothing there
    ∷ worked 2
    (step [] true true ∷ step (lead 1 2 AtMost 5 ∷ behind 1 2 AtLeast 5 ∷ lead 1 2 Exactly 0 ∷ []) false false ∷ []) LogIn
    (planned 1 5 (0 ∷ 0 ∷ []) (0 ∷ 0 ∷ []) ∷ [])
    -- x − y at least 1: from log-in the last resets before the start contradict it, in mid-shift x starts a tick ahead
    ∷ worked 2 (step (lead 1 2 AtLeast 1 ∷ []) false false ∷ []) LogIn (looped 1 (3 ∷ 2 ∷ 0 ∷ []) (less 1 ∷ pos 0 ∷ pos 0 ∷ []) ∷ [])
    ∷ worked 2 (step (lead 1 2 AtLeast 1 ∷ []) false false ∷ []) MidShift (planned 1 4 (0 ∷ []) (4 ∷ 0 ∷ []) ∷ [])
    -- x − y at most −2: y starts two ticks ahead; over 2: two ticks and a part
    ∷ worked 2 (step (behind 1 2 AtMost 2 ∷ []) false false ∷ []) MidShift (planned 1 4 (0 ∷ []) (0 ∷ 8 ∷ []) ∷ [])
    ∷ worked 2 (step (lead 1 2 Over 2 ∷ []) false false ∷ []) MidShift (planned 1 4 (0 ∷ []) (9 ∷ 0 ∷ []) ∷ [])
    -- x − y and y − z at least 4,000: starts that lead by each other
    ∷ worked 3 (step (lead 1 2 AtLeast 4000 ∷ lead 2 3 AtLeast 4000 ∷ []) false false ∷ []) MidShift
    (planned 1 5 (0 ∷ []) (40000 ∷ 20000 ∷ 0 ∷ []) ∷ [])
    -- zero x, zero y, then x − y exactly 5, two rounds: y is reset 5 ticks after x in each
    ∷ worked 2 (step [] true false ∷ step [] false true ∷ step (lead 1 2 Exactly 5 ∷ []) false false ∷ []) LogIn
    (planned 2 9 (0 ∷ 45 ∷ 45 ∷ 45 ∷ 90 ∷ 90 ∷ []) (0 ∷ 0 ∷ []) ∷ [])
    -- the resets of the step itself come after its guards
    ∷ worked 2 (step (lead 1 2 AtLeast 1 ∷ []) true false ∷ []) MidShift
    (planned 1 4 (0 ∷ []) (4 ∷ 0 ∷ []) ∷ looped 2 (4 ∷ 1 ∷ 0 ∷ []) (less 1 ∷ pos 0 ∷ pos 0 ∷ []) ∷ [])
    ∷ []
