-- From what is computed to what is shown.
use Rattle.std.specs.Prelude.{◌≡◌, refl, List, ℕ, suc, ◌*◌, ◌-◌, ◌<◌, length, get_or, take, drop, Float}
use Rattle.std.proofs.Common.{sym, ap, subst, ◌∙◌, arith, length-drop, length-take, get_or-drop, get_or-take}
use Rattle.table.specs.Step.{Step}
use Rattle.table.specs.declared.Table.{Table}
use Rattle.runs.specs.declared.Start.TheVariants.{LogIn}
use Rattle.runs.specs.Demand.{starts_of, Exists}
use Rattle.constraints.specs.Rounds.{length_rounds}
use Rattle.constraints.specs.Sized.{Sized, parts_of, rounds_of, sized_moments}
use Rattle.solving.specs.Solve.{Roomy}
use Rattle.seconds.proofs.Rounding.{seconds_nearest}
use Rattle.window.specs.declared.Span.{Span}
use Rattle.window.specs.declared.Span.TheVariants.{Closed, Open, Absent}
use Rattle.window.specs.declared.Window.{Window}
use Rattle.window.specs.declared.Window.TheVariants as window
use Rattle.window.specs.Window.{Near, span_of}
use Rattle.window.specs.Spans.{near_span}
use Rattle.showing.specs.Shown.{marked, timed, span_at, window_at, Rows}
use Rattle.spans.specs.Span.{Spans}
use Rattle.spans.specs.Exact.{Told}
use Rattle.plan.specs.Planned.{parts_in}
use Rattle.windows.specs.Answer.{rooms, Nearests, Spanned, Shows}

-- near moments are shown as the nearest numbers
pub near_nearest : (P : ℕ) → 0 < P → (s : Span) → Near s → Nearests P s
near_nearest P p (Closed a b) h = (seconds_nearest a P (omega (arith, h.0)) p, seconds_nearest b P (omega (arith, h.1)) p)
near_nearest P p (Open a) h = seconds_nearest a P (omega arith) p
near_nearest P p Absent h = tt

-- the last moments from place 1 on
abbrev pub behind : List ℕ → List ℕ
behind l = take (length l - 1) (drop 1 l)

module _ (t : Table) (k : ℕ) (z : Sized t k) where
  abbrev K : ℕ
  K = k * t.steps

  abbrev n : ℕ
  n = t.clocks

  abbrev σ : List Step
  σ = rounds_of t k

  same : length σ ≡ K
  same = length_rounds t k

  parts_same : parts_in n σ ≡ parts_of t k
  parts_same = omega (arith, same)

  -- ---- no run exists
  pub none_spanned : ¬ Exists n (starts_of LogIn) σ → Spanned n σ (λ i. Absent)
  none_spanned h = record { each = λ i l. h; nearest = λ i l. tt }

  pub none_shows : ¬ Exists n (starts_of LogIn) σ → (m m' : List ℕ) (s s' : List Float)
      → m' ≡ marked (λ i. window.Absent) K m → s' ≡ timed (λ i. window.Absent) K s → Shows n σ (rooms m s) (rooms m' s') K
  none_shows h m m' s s' e f =
      record {
        number = sym same;
        spans = λ i. Absent;
        spanned = none_spanned h;
        marks = e ∙ ap (λ q. marked (λ i. window.Absent) q m) (sym same);
        times = f ∙ ap (λ q. timed (λ i. window.Absent) q s) (sym same);
      }

  -- ---- rows of first and last moments
  module _ (firsts starts lasts firsts' lasts' : List ℕ) (room : Roomy (k * t.steps) t.clocks firsts starts lasts)
      (a : length firsts' ≡ length firsts) (b : length lasts' ≡ length lasts) (h : Told t k firsts' lasts') (P : ℕ) (q : P ≡ parts_of t k) where
    -- the row of last moments from place 1 on
    behind_at : (i : ℕ) → i < K → get_or (behind lasts') i 0 ≡ get_or lasts' (suc i) 0
    behind_at i l =
        get_or-take (length lasts' - 1) (drop 1 lasts') i 0 (omega (arith, b, room.loop))
        ∙ get_or-drop 1 lasts' i 0
        ∙ ap (λ m. get_or lasts' m 0) (omega arith)

    pub told_rows : Rows firsts' (behind lasts') P K
    told_rows =
        record {
          first_row = omega (arith, a, room.times);
          last_row = omega (arith, length-take (length lasts' - 1) (drop 1 lasts'), length-drop 1 lasts', b, room.loop);
          firsts_near = h.near;
          some_parts = omega (arith, q);
          few_parts = omega (arith, q, sized_moments t k z);
        }

    abbrev spans : ℕ → Span
    spans = span_at firsts' (behind lasts')

    pub told_spanned : Spanned n σ (span_at firsts' (behind lasts'))
    told_spanned =
        record {
          each = λ i l.
              let w : i < K = omega (arith, same) in
              subst (λ Q. Spans Q n σ (starts_of LogIn) (suc i) (spans i)) (sym parts_same)
              (subst (λ x. Spans (parts_of t k) n σ (starts_of LogIn) (suc i) (span_of (get_or firsts' i 0) x)) (sym (behind_at i w)) (h.spans i w));
          nearest = λ i l.
              near_nearest (parts_in n σ) (omega arith) (spans i)
              (near_span (get_or firsts' i 0) (get_or (behind lasts') i 0) (spans i) refl (h.near i (omega (arith, same))));
        }

    pub told_shows : (m m' : List ℕ) (s s' : List Float)
        → m' ≡ marked (window_at P firsts' (behind lasts')) K m → s' ≡ timed (window_at P firsts' (behind lasts')) K s
        → Shows n σ (rooms m s) (rooms m' s') K
    told_shows m m' s s' e f =
        record {
          number = sym same;
          spans = spans;
          spanned = told_spanned;
          marks = e ∙ ap (λ Q. marked (window_at Q firsts' (behind lasts')) K m) parts ∙ ap (λ x. marked shown x m) (sym same);
          times = f ∙ ap (λ Q. timed (window_at Q firsts' (behind lasts')) K s) parts ∙ ap (λ x. timed shown x s) (sym same);
        }
      where
        parts : P ≡ parts_in n σ
        parts = q ∙ sym parts_same

        shown : ℕ → Window
        shown = window_at (parts_in n σ) firsts' (behind lasts')
