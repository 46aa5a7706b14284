-- From what the search finds to the answer.
use Rattle.std.specs.Prelude.{◌≡◌, refl, List, ℕ, ◌+◌, ◌*◌, ◌-◌, ◌^◌, get_or}
use Rattle.std.proofs.Common.{arith}
use Rattle.basics.specs.Places.{KeptFrom}
use Rattle.table.specs.declared.Table.{Table}
use Rattle.table.specs.Step.{steps_of, Good}
use Rattle.runs.specs.Run.{copies}
use Rattle.runs.specs.declared.Start.TheVariants.{MidShift}
use Rattle.effects.specs.Starts.{starts_for}
use Rattle.effects.specs.Stored.{EffectOf}
use Rattle.effects.specs.Whole.{Side, whole_flat}
use Rattle.effects.specs.WholeLeft.{steady_smallest}
use Rattle.gluing.specs.Laying.{effect_at}
use Rattle.joins.specs.Rounds.{sized_rounds}
use Rattle.climbing.specs.Climbing.{power_some, power_limit}
use Rattle.climbing.specs.Ways.{Unending}
use Rattle.rounds.specs.Counting.{counts_endless}
use Rattle.smallest.specs.Least.{Written}
use Rattle.one_start.specs.Answer.{Lasts}

module _ (t : Table) (good : Good t) {place : ℕ} {m : List ℕ}
    (e : Unending (t.clocks + 1) (starts_for (t.clocks + 1) MidShift) (steps_of t) place m) where
  pub side : Side (t.clocks + 1)
  side = (omega arith, omega (arith, good.clocks_few))

  -- The effect at the place may be asked for its smallest readings,
  pub settled_effect : EffectOf (t.clocks + 1) (place * 196) 14 m (copies (steps_of t) (2 ^ place))
  settled_effect = record {
    sized = sized_rounds e.rounds.table (2 ^ place) (power_some place) (power_limit place e.low);
    describes = e.rounds.describes;
  }

  -- and these are the answer.
  pub settled_lasts : (l l' : List ℕ) → Written (t.clocks + 1) (effect_at m (place * 196)) l l'
      → Lasts t.clocks (steps_of t) l l' (t.clocks + 1)
  settled_lasts l l' w = record {
    counts = counts_endless t good MidShift e.always;
    parts_are = refl;
    smallest = steady_smallest t.clocks side (steps_of t) e.rounds.table.fair (effect_at m (place * 196))
        (λ a h. whole_flat (t.clocks + 1) side (effect_at m (place * 196)) e.rounds.describes.flat a (omega arith))
        e.steady (λ j. get_or l' (j - 1) 0) w.smallest;
    room = kept w.kept;
  }
    where
      kept : KeptFrom (t.clocks + 1 - 1) l l' → KeptFrom t.clocks l l'
      kept k = let q : t.clocks + 1 - 1 ≡ t.clocks = omega arith in rw q at k
