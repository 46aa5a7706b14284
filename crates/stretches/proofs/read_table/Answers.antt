use native.Mathlib.Omega.{arith}
use mathlib.Core.Path.{refl}
use mathlib.Core.List.{List}
use Prim.Native.Nat.{ℕ, ◌<◌}
use lib.ListN.{length}
use Rattle.stretches.specs.Outside.{Stops}
use Rattle.stretches.specs.Whole.{Known, Reaches, reach_first, reach_found, reach_refused, reach_next, since_none, since_some, since_stretch, tells_answer, tells_refused}
use Rattle.stretches.proofs.read_table.Goals as goal
use Rattle.stretches.proofs.read_table.Goals.{After-earlier-first, In-Read, In-Stretch}

-- ---- where the records stop at a stretch
module _ (c : In-Stretch) where
  abbrev bytes : List ℕ
  bytes = c.args.bytes.now

  abbrev at : ℕ
  at = c.loop-a.at

  abbrev reaches : Reaches bytes at c.loop-a.t
  reaches = c.loop-a.invariant.0

  abbrev stops : Stops bytes c.loop-a.t at c.read_records-halt.result
  stops = c.read_records-halt.ensures

-- the first is known
known : (c : After-earlier-first) → Known (bytes (goal.at.After-earlier-first c).In-Stretch) c.earlier-first.result
known c =
    since_stretch c.loop-a.invariant.1 _ (stops (goal.at.After-earlier-first c).In-Stretch) _ _ c.in-Stretch.is _ c.earlier-first.ensures

-- it is read, and the table is reached after it
module _ (c : In-Read) where
  abbrev found : In-Stretch
  found = (goal.at.In-Read c).In-Stretch

  abbrev next : ℕ
  next = c.in-Read.next

  past : (at found < length (bytes found)) × (at found < next) × Reaches (bytes found) next c.in-Read.v
  past =
      reach_next (bytes found) (at found) _ (reaches found) _ (stops found) _ _ found.in-Stretch.is _ c.outside-part.ensures _ _
      c.in-Read.is

pub loop-a-init : goal.loop-a-init
loop-a-init c = (reach_first _ c.requires, since_none refl refl refl)

pub read_records-halt-requires : goal.read_records-halt-requires
read_records-halt-requires c = c.loop-a.invariant.0.limits

pub returns-in-Answer : goal.returns-in-Answer
returns-in-Answer c =
    let l = c.loop-a in
    tells_answer l.invariant.0 l.invariant.1 _ c.read_records-halt.ensures _ c.in-Answer.is

pub outside-part-requires : goal.outside-part-requires
outside-part-requires c =
    reach_found (bytes (goal.at.outside-part-requires c).In-Stretch) (at (goal.at.outside-part-requires c).In-Stretch) _ (reaches (goal.at.outside-part-requires c).In-Stretch) _ (stops (goal.at.outside-part-requires c).In-Stretch) _ _ c.in-Stretch.is

pub returns-in-Refused : goal.returns-in-Refused
returns-in-Refused c =
    tells_refused
    (reach_refused (bytes (goal.at.returns-in-Refused c).In-Stretch) (at (goal.at.returns-in-Refused c).In-Stretch) _ (reaches (goal.at.returns-in-Refused c).In-Stretch) _ (stops (goal.at.returns-in-Refused c).In-Stretch) _ _ c.in-Stretch.is _ c.outside-part.ensures _
    c.in-Refused.is)
    (known (goal.at.returns-in-Refused c).After-earlier-first)

pub loop-a-smaller : goal.loop-a-smaller
loop-a-smaller c = let n = past (goal.at.loop-a-smaller c).In-Read in omega (arith, n.0, n.1)

pub loop-a-preserved : goal.loop-a-preserved
loop-a-preserved c = ((past (goal.at.loop-a-preserved c).In-Read).2, since_some (known (goal.at.loop-a-preserved c).After-earlier-first))
