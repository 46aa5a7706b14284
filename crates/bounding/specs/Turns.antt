-- Checks of a list of demands, which lower bounds, part by part.
use Rattle.std.specs.Prelude.{◌≡◌, refl, List, [], ◌∷◌, ◌++◌, ℕ, ◌≤◌, length}
use Rattle.std.proofs.Common.{sym, ap, subst, ◌∙◌}
use mathlib.Core.List.Memᴰ
use Rattle.std.proofs.lemmas.List.{map-append}
use Rattle.runs.specs.declared.Demand.{Demand}
use Rattle.checks.specs.InParts.{edge, edges}
use Rattle.lowering.specs.Lowered.{Bounds, lowers_of, lowers_none, lowers_append, lowers_size}
use Rattle.lowering.specs.Bounded.{unit, Lowerable, Bounded, lowerable, bounded_left, bounded_next}

-- s after checks of ds
abbrev pub after_of : List Demand → Bounds → Bounds
after_of ds s = lowers_of (edges ds) s

-- what they ask of the bounds of all moments
pub record Able (ds : List Demand) (l : List ℕ) : Type 0 where
  pub moments : ℕ
  pub bounded : Bounded moments (edges ds) l

-- In checks of ds that began with s₀: s is what the first ones gave, and these are left.
pub record Turn (ds : List Demand) (s₀ : Bounds) (left : List Demand) (s : Bounds) : Type 0 where
  pub same : after_of left s ≡ after_of ds s₀
  pub able : Able left s.late
  pub size : length s.late ≡ length s₀.late

module _ (ds : List Demand) (s₀ : Bounds) where
  -- before the first
  pub turn_first : Able ds s₀.late → Turn ds s₀ ds s₀
  turn_first a = record { same = refl; able = a; size = refl }

  -- the checks of the next demands xs
  module _ (rest xs left : List Demand) (e : rest ≡ xs ++ left) (s : Bounds) (u : Turn ds s₀ rest s) where
    parts : edges rest ≡ edges xs ++ edges left
    parts = ap edges e ∙ map-append edge xs left

    able : Bounded u.able.moments (edges xs ++ edges left) s.late
    able = subst (λ cs. Bounded u.able.moments cs s.late) parts u.able.bounded

    pub turn_able : Able xs s.late
    turn_able = record { moments = u.able.moments; bounded = bounded_left u.able.moments (edges xs) (edges left) s.late able }

    pub turn_more : (s' : Bounds) → s' ≡ after_of xs s → Turn ds s₀ left s'
    turn_more s' c =
        record {
          same =
              ap (after_of left) c
              ∙ sym (lowers_append (edges xs) (edges left) s)
              ∙ ap (λ cs. lowers_of cs s) (sym parts)
              ∙ u.same;
          able =
              record {
                moments = u.able.moments;
                bounded =
                    subst (λ (t : Bounds). Bounded u.able.moments (edges left) t.late) (sym c)
                    (bounded_next u.able.moments (edges xs) (edges left) s able);
              };
          size = ap (λ (t : Bounds). length t.late) c ∙ lowers_size (edges xs) s ∙ u.size;
        }

  -- after the last
  pub turn_last : (s : Bounds) → Turn ds s₀ [] s → s ≡ after_of ds s₀
  turn_last s u = sym (lowers_none s) ∙ u.same

-- one check
module _ (d : Demand) (l : List ℕ) (a : Able (d ∷ []) l) where
  pub one_lowerable : Lowerable (edge d) l
  one_lowerable = lowerable a.moments (edges (d ∷ [])) l a.bounded (edge d) (Memᴰ.head refl)

  pub one_gain : (edge d).gain ≤ unit
  one_gain = a.bounded.gain (edge d) (Memᴰ.head refl)
