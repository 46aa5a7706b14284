-- From what is computed to the choice.
use Rattle.std.specs.Prelude.{◌≡◌, List, ℕ, ◌*◌, length}
use Rattle.std.proofs.Common.{sym, subst, arith}
use Rattle.table.specs.declared.Table.{Table}
use Rattle.runs.specs.declared.Start.TheVariants.{LogIn}
use Rattle.runs.specs.Demand.{starts_of, Exists}
use Rattle.constraints.specs.Rounds.{length_rounds}
use Rattle.constraints.specs.Sized.{Sized, parts_of, rounds_of}
use Rattle.solving.specs.Solve.{Roomy}
use Rattle.window.specs.declared.Choice.{Choice}
use Rattle.window.specs.declared.Choice.TheVariants.{NoneClosed}
use Rattle.window.specs.Spans.{absent_not_closed}
use Rattle.window.specs.Widest.{Chosen}
use Rattle.showing.specs.Shown.{span_at}
use Rattle.spans.specs.Exact.{Told}
use Rattle.plan.specs.Planned.{parts_in}
use Rattle.windows.specs.Found.{behind, none_spanned, told_spanned}
use Rattle.widest.specs.Answer.{Widens}

module _ (t : Table) (k : ℕ) (z : Sized t k) where
  -- where no run exists, no window is closed
  pub none_widens : ¬ Exists t.clocks (starts_of LogIn) (rounds_of t k) → Widens t.clocks (rounds_of t k) NoneClosed
  none_widens h =
      record { spans = _; spanned = none_spanned t k z h; chosen = λ j a b l e. absent_not_closed e }

  pub told_widens : (firsts starts lasts firsts' lasts' : List ℕ) → Roomy (k * t.steps) t.clocks firsts starts lasts
      → length firsts' ≡ length firsts → length lasts' ≡ length lasts → Told t k firsts' lasts' → (P : ℕ) → P ≡ parts_of t k
      → (c : Choice) → Chosen P (span_at firsts' (behind lasts')) (k * t.steps) c → Widens t.clocks (rounds_of t k) c
  told_widens firsts starts lasts firsts' lasts' room a b h P q c w =
      record {
        spans = span_at firsts' (behind lasts');
        spanned = told_spanned t k z firsts starts lasts firsts' lasts' room a b h P q;
        chosen =
            subst (λ m. Chosen (parts_in t.clocks (rounds_of t k)) (span_at firsts' (behind lasts')) m c) (sym (length_rounds t k))
            (subst (λ Q. Chosen Q (span_at firsts' (behind lasts')) (k * t.steps) c) parts w);
      }
    where
      parts : P ≡ parts_in t.clocks (rounds_of t k)
      parts = omega (arith, q, length_rounds t k)
