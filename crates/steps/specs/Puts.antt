-- Difference constraints (01: demands) put into the cells of a matrix one after the other.
use Rattle.std.specs.Prelude.{◌≡◌, refl, ◌↔◌, Bool, true, false}
use mathlib.Core.List.{List, [], ◌∷◌, ◌++◌}
use Prim.Native.Nat.{ℕ, ◌≤◌, ◌<◌}
use Rattle.std.proofs.Common.{arith}
use Rattle.runs.specs.declared.Demand.{Demand}
use Rattle.runs.specs.Demand.{Holds}
use Rattle.runs.specs.Satisfies.{Satisfies}
use Rattle.runs.specs.Tools.{Every, every_nil, every_cons}
use Rattle.zones.specs.Bound.{◌⊑◌, Sat}
use Rattle.zones.specs.Values.{sat_mono}
use Rattle.zones.specs.Matrix.{Solves, Flat}
use Rattle.zones.specs.Weight.{Within}
use Rattle.zones.specs.Codes.{BIAS, bound, code, code_under, code_over, code_coded, Coded}
use Rattle.zones.specs.Cells.{matrix, Ranged, tighten_of}
use Rattle.zones.specs.Building.{tighten_ranged, tighten_flat, tighten_solves}
use Rattle.effects.specs.Demands.{bound_of, holds_sat}
use Rattle.effects.specs.StepDemands.{Short}

-- One constraint put in,
unfoldable pub put_of : Demand → List ℕ → List ℕ
put_of d l = tighten_of d.from d.to (code (bound_of d)) l

-- and a list of them, from the left.
unfoldable pub puts_of : List Demand → List ℕ → List ℕ
puts_of [] l = l
puts_of (d ∷ ds) l = puts_of ds (put_of d l)

pub puts_append : (ds es : List Demand) (l : List ℕ) → puts_of (ds ++ es) l ≡ puts_of es (puts_of ds l)
unfolding puts_of
puts_append [] es l = refl
puts_append (d ∷ ds) es l = puts_append ds es (put_of d l)

-- What constraints put into l make of it: it stays in range and flat, and is solved by the rows of values from before that
-- satisfy them too.
pub record Put (D N : ℕ) (ds : List Demand) (l z : List ℕ) : Type 0 where
  pub ranged : Ranged D N z
  pub flat : Flat N (matrix l) → Flat N (matrix z)
  pub solves : (P : ℕ) (x : ℕ → ℕ) → 0 < P → Solves N P (matrix z) x ↔ (Solves N P (matrix l) x × Satisfies P x ds)

short_within : (D N : ℕ) (d : Demand) → 4000 ≤ D → Short N d → Within D (bound_of d)
short_within D N d wide s = go d.strict refl
  where
    go : (b : Bool) → d.strict ≡ b → Within D (bound_of d)
    go true e = rw e (record { spans = (omega (arith, s.up, s.down), omega (arith, s.up, s.down)) })
    go false e = rw e (record { spans = (omega (arith, s.up, s.down), omega (arith, s.up, s.down)) })

module _ (D N : ℕ) (wide : 4000 ≤ D) (small : D ≤ BIAS) (most : N ≤ 21) where
  -- ---- One constraint

  module _ (d : Demand) (s : Short N d) (l : List ℕ) (r : Ranged D N l) where
    coded : Coded D (code (bound_of d))
    coded = code_coded D small (bound_of d) (short_within D N d wide s)

    put_ranged : Ranged D N (put_of d l)
    unfolding put_of
    put_ranged = tighten_ranged D N l small most r d.from d.to (code (bound_of d)) s.from s.to coded

    put_flat : Flat N (matrix l) → Flat N (matrix (put_of d l))
    unfolding put_of
    put_flat = tighten_flat D N l small most r d.from d.to (code (bound_of d)) s.from s.to coded

    put_solves : (P : ℕ) (x : ℕ → ℕ) → 0 < P
        → Solves N P (matrix (put_of d l)) x ↔ (Solves N P (matrix l) x × Holds P x d)
    unfolding put_of
    put_solves P x p = (
      (λ h. let k = same.0 h in (k.0, (holds_sat P x d).1 (sat_mono P u v p under k.1))),
      λ h. same.1 (h.0, sat_mono P u v p over ((holds_sat P x d).0 h.1)),
    )
      where
        u : ℕ
        u = x d.from

        v : ℕ
        v = x d.to

        under : bound (code (bound_of d)) ⊑ bound_of d
        under = code_under D small (bound_of d) (short_within D N d wide s)

        over : bound_of d ⊑ bound (code (bound_of d))
        over = code_over D small (bound_of d) (short_within D N d wide s)

        same : Solves N P (matrix (tighten_of d.from d.to (code (bound_of d)) l)) x
            ↔ (Solves N P (matrix l) x × Sat P (bound (code (bound_of d))) u v)
        same =
            tighten_solves D N l small most r d.from d.to (code (bound_of d)) s.from s.to coded P x p

  -- ---- A list of constraints

  pub puts : (ds : List Demand) → Every (Short N) ds → (l : List ℕ) → Ranged D N l → Put D N ds l (puts_of ds l)
  unfolding puts_of
  puts [] s l r = record {
    ranged = r;
    flat = λ f. f;
    solves = λ P x p. ((λ h. (h, every_nil (Holds P x))), λ h. h.0);
  }
  puts (d ∷ ds) s l r =
      go ((every_cons (Short N) d ds).0 s).0
      (puts ds ((every_cons (Short N) d ds).0 s).1 (put_of d l) (put_ranged d ((every_cons (Short N) d ds).0 s).0 l r))
    where
      go : Short N d → Put D N ds (put_of d l) (puts_of ds (put_of d l)) → Put D N (d ∷ ds) l (puts_of ds (put_of d l))
      go k q = record { ranged = q.ranged; flat = λ f. q.flat (put_flat d k l r f); solves = solves }
        where
          solves : (P : ℕ) (x : ℕ → ℕ) → 0 < P
              → Solves N P (matrix (puts_of ds (put_of d l))) x ↔ (Solves N P (matrix l) x × Satisfies P x (d ∷ ds))
          solves P x p = (
            (λ h. let t = rest.0 h in let o = one.0 t.0 in (o.0, parts.1 (o.1, t.1))),
            λ h. let t = parts.0 h.1 in rest.1 (one.1 (h.0, t.0), t.1),
          )
            where
              parts : Satisfies P x (d ∷ ds) ↔ (Holds P x d × Satisfies P x ds)
              parts = every_cons (Holds P x) d ds

              one : Solves N P (matrix (put_of d l)) x ↔ (Solves N P (matrix l) x × Holds P x d)
              one = put_solves d k l r P x p

              rest : Solves N P (matrix (puts_of ds (put_of d l))) x
                  ↔ (Solves N P (matrix (put_of d l)) x × Satisfies P x ds)
              rest = q.solves P x p
