-- The first round, from which the search goes up.
use Rattle.std.specs.Prelude.{◌≡◌, Bool, true, false, ◌↔◌, List, ℕ, ◌*◌, ◌^◌, ◌<◌}
use Rattle.std.proofs.Common.{sym, subst, ◌∙◌, arith}
use Rattle.table.specs.declared.Table.{Table}
use Rattle.table.specs.Step.{Step, steps_of, Good}
use Rattle.runs.specs.Run.{copies}
use Rattle.runs.specs.Copies.{copies_one}
use Rattle.zones.specs.Matrix.{Matrix}
use Rattle.effects.specs.Describes.{Describes}
use Rattle.effects.specs.Begins.{Begins, no_run}
use Rattle.effects.specs.Known.{rounds_one}
use Rattle.effects.specs.Tells.{Tells}
use Rattle.effects.specs.Whole.{whole}
use Rattle.gluing.specs.Laying.{effect_at}
use Rattle.effects.specs.Stored.{EffectOf}
use Rattle.joins.specs.Rounds.{Tabled, good_tabled}
use Rattle.climbing.specs.LeftPart.{clash}
use Rattle.climbing.specs.Climbing.{Reached}

-- Where `ok` is true, one round of τ runs from the starts that D allows, and its effect is at the first place of m; where it is
-- false, it does not.
pub record First (w : ℕ) (D : Matrix) (τ : List Step) (ok : Bool) (m : List ℕ) : Type 0 where
  pub runs : ok ≡ true → Reached w D τ 0 m
  pub stuck : ok ≡ false → ¬ Begins D τ

module _ (table : Table) (good : Good table) (w : ℕ) (m : List ℕ) where
  abbrev τ : List Step
  τ = steps_of table

  t : Tabled τ
  t = good_tabled table good

  module _ (ok : Bool) (h : Tells τ ok (whole w (effect_at m 0))) where
    -- It has no run at all,
    pub first_stuck : (D : Matrix) → ok ≡ false → First w D τ false m
    first_stuck D e = record { runs = λ q. absurd (clash q); stuck = λ q. no_run D (h.stuck e) }

    module _ (e : ok ≡ true) where
      -- or an effect, which tells.
      pub first_effect : EffectOf w 0 14 m τ
      first_effect = record {
        sized = record { fair = t.fair; some = t.some; few = omega (arith, t.few) };
        describes = h.runs e;
      }

      pub first_is : (D : Matrix) (r : Bool) → (r ≡ true) ↔ Begins D τ → First w D τ r m
      first_is D r i = record {
        runs = λ q. record {
          powers = record { table = t; at = at };
          runs = subst (Begins D) (sym (copies_one τ)) (i.0 q);
        };
        stuck = λ q s. clash (sym q ∙ i.1 s);
      }
        where
          at : (j : ℕ) → j < 1 → Describes (copies τ (2 ^ j)) (whole w (effect_at m (j * 196)))
          at j l = let q : j ≡ 0 = omega arith in rw q (rounds_one (h.runs e))
