-- The demands of a variant put into cells, clock by clock.
use Rattle.std.specs.Prelude.{◌≡◌, refl, List, [], ◌∷◌, map, ℕ, zero, suc, ◌-◌, ◌≤◌, ◌<◌}
use Rattle.std.proofs.Math.Path.{ap}
use Rattle.std.proofs.Common.{ap₂, sym, subst, ◌∙◌, arith}
use mathlib.Core.List.Memᴰ
use Rattle.runs.specs.declared.Demand.{Demand}
use Rattle.runs.specs.declared.Start.{Start}
use Rattle.runs.specs.Demand.{Starts, starts_of, moment, moved}
use Rattle.runs.specs.DemandRange.{Proper}
use Rattle.runs.specs.Start.{Upper, start_upper}
use Rattle.runs.specs.Tools.{Every}
use Rattle.effects.specs.Demands.{each, every_each}
use Rattle.effects.specs.StepDemands.{Short}
use Rattle.constraints.specs.declared.Partner.{Partner}
use Rattle.constraints.specs.declared.Partner.TheVariants.{One, None}
use Rattle.constraints.specs.Partner.{partner_list}
use Rattle.steps.specs.Puts.{put_of, puts_of, puts_append}

-- ---- One demand
proper_short : (n N : ℕ) (d : Demand) → n < N → Proper n d → Short N d
proper_short n N d h p = record {
  from = omega (arith, p.from);
  to = omega (arith, p.to);
  up = p.up;
  down = p.down;
}

-- ---- Those of a clock

-- Before no steps, the moments are the places.
moved_none : (ds : List Demand) → map (moved 0) ds ≡ ds
moved_none [] = refl
moved_none (d ∷ ds) = ap₂ ◌∷◌ same (moved_none ds)
  where
    at : (a : ℕ) → moment 0 a ≡ a
    at zero = refl
    at (suc a) = omega arith

    same : moved 0 d ≡ d
    same = rw (at d.from, at d.to) refl

module _ (v : Start) (j : ℕ) (p : Partner) (e : partner_list p ≡ map (moved 0) (starts_of v j)) where
  pub partner_short : 0 < j → j ≤ 6 → (d : Demand) → p ≡ One d → Short 21 d
  partner_short h k d q =
      proper_short 6 21 d (omega arith)
      (subst (Every (Proper 6)) (sym (rw q at e ∙ moved_none (starts_of v j))) ((start_upper v 6).proper j h k) d
      (Memᴰ.head refl))

  pub partner_put : (d : Demand) (l z : List ℕ) → p ≡ One d → z ≡ put_of d l → z ≡ puts_of (starts_of v j) l
  unfolding puts_of
  partner_put d l z q f = f ∙ ap (λ ds. puts_of ds l) (rw q at e ∙ moved_none (starts_of v j))

  pub partner_absent : (l : List ℕ) → p ≡ None → l ≡ puts_of (starts_of v j) l
  unfolding puts_of
  partner_absent l q = ap (λ ds. puts_of ds l) (rw q at e ∙ moved_none (starts_of v j))

-- ---- Those of every clock

-- One clock less is left.
pub clocks_less : (D : Starts) (j : ℕ) (l z : List ℕ) → 0 < j → z ≡ puts_of (D j) l
    → puts_of (each (j - 1) D) z ≡ puts_of (each j D) l
unfolding each
clocks_less D zero l z p e = absurd (omega arith)
clocks_less D (suc j) l z p e =
    let k : suc j - 1 ≡ j = omega arith in rw (k, e) (sym (puts_append (D (suc j)) (each j D) l))

-- None is left.
pub clocks_done : (D : Starts) (j : ℕ) (l : List ℕ) → ¬ (0 < j) → l ≡ puts_of (each j D) l
clocks_done D j l n = let q : j ≡ 0 = omega arith in rw q (unfold each puts_of in refl)

-- They are short.
pub starts_short : (w : ℕ) (D : Starts) → 0 < w → Upper (w - 1) D → Every (Short w) (each (w - 1) D)
starts_short w D s u =
    (every_each (Short w) D (w - 1)).1 (λ j p l d m. proper_short (w - 1) w d (omega arith) (u.proper j p l d m))
