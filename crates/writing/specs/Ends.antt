-- The row at first, when no demand is written, and in the end, when the starts are left.
use Rattle.std.specs.Prelude.{◌≡◌, List, ◌++◌, ℕ, ◌+◌, ◌*◌, ◌≤◌, ℤ, length, drop}
use Rattle.std.proofs.Common.{sym, ◌∙◌, arith, drop_of_length-le}
use Rattle.std.proofs.Math.Path.{ap}
use Rattle.std.proofs.Math.ListN.{get_or}
use Rattle.std.proofs.lemmas.List.Edits.{sets}
use Rattle.std.proofs.Math.Seq.{length-sets}
use Rattle.table.specs.Step.{Step, steps_of, Fairs}
use Rattle.table.specs.declared.Table.{Table}
use Rattle.runs.specs.Run.{copies}
use Rattle.runs.specs.declared.Start.{Start}
use Rattle.runs.specs.Demand.{steps_demands, start_demands, starts_of}
use Rattle.runs.specs.DemandOrder.{demands_is, steps_demands_nil, steps_demands_same}
use Rattle.runs.specs.DemandRange.{Proper}
use Rattle.runs.specs.Copies.{fairs_copies}
use Rattle.runs.specs.Tools.{Every}
use Rattle.constraints.specs.Pieces.{fresh}
use Rattle.constraints.specs.Demands.{demands_of}
use Rattle.constraints.specs.Resets.{fresh_same}
use Rattle.constraints.specs.Rounds.{length_rounds, fairs_drop}
use Rattle.constraints.specs.Demands.{all_proper}
use Rattle.cells.specs.Lines.{cells, over, Small}
use Rattle.constraints.specs.Sized.{Sized}
use Rattle.cells.specs.Writing.{Fits, Left, left_all, left_as, sets_over}
use Rattle.writing.specs.Passed.{starts_due, steps_due, Passed}

module _ {t : Table} {k : ℕ} (ready : Sized t k) where
  σ : List Step
  σ = copies (steps_of t) k

  -- what is left of the rounds is fair
  pub rounds_fair : (i : ℕ) → Fairs (drop i (copies (steps_of t) k))
  rounds_fair i = fairs_drop i (copies (steps_of t) k) (fairs_copies (steps_of t) k ready.good.fair)

  module _ (v : Start) where
    all_small : Every Small (demands_of t v k)
    all_small d m =
        let h : Proper (k * t.steps + t.clocks) d = all_proper t v k ready.good ready.clocks d m in
        record {
          from = omega (arith, h.from, ready.few, ready.good.clocks_few);
          to = omega (arith, h.to, ready.few, ready.good.clocks_few);
          up = h.up;
          down = h.down;
        }

    -- ---- at first
    all_due : demands_of t v k ≡ steps_due t k 0 (fresh (k * t.steps)) ++ starts_due t v k
    unfolding σ
    all_due =
        demands_is t.clocks σ (starts_of v)
        ∙ (λ i. steps_demands σ 0 (λ j. length_rounds t k i + j)
        ++ start_demands (length_rounds t k i) (starts_of v) 1 t.clocks)
        ∙ ap (λ ds. ds ++ starts_due t v k)
        (steps_demands_same σ 0 (λ j. k * t.steps + j) (λ j. get_or (fresh (k * t.steps)) j 0) (rounds_fair 0)
        (fresh_same (k * t.steps)))

    pub passed_first : {z : List ℕ} (row : List ℤ) → 4 * length (demands_of t v k) ≤ length row → z ≡ fresh (k * t.steps)
        → Passed t v k row row 0 0 0 z
    passed_first {z} row h e =
        record {
          round = 0;
          step = omega (arith, ready.good.steps_some);
          steps = omega arith;
          few = omega arith;
          resets = ap length e;
          left =
              left_as (all_due ∙ ap (λ y. steps_due t k 0 y ++ starts_due t v k) (sym e))
              (left_all (record { room = omega arith; small = all_small }));
        }

  module _ {v : Start} {old row : List ℤ} {q i s : ℕ} {z : List ℕ} (p : Passed t v k old row q i s z) where
    -- ---- in the end the starts are left
    module _ (l : k * t.steps ≤ i) where
      starts_left_lem : Left old 0 (demands_of t v k) row q (starts_due t v k)
      starts_left_lem =
          let n : length (copies (steps_of t) k) ≤ i = omega (arith, length_rounds t k) in
          left_as
          (ap (λ τ. steps_demands τ i (λ j. get_or z j 0) ++ starts_due t v k) (drop_of_length-le (copies (steps_of t) k) n)
          ∙ ap (λ ds. ds ++ starts_due t v k) (steps_demands_nil i (λ j. get_or z j 0)))
          p.left

      pub starts_fit : Fits row q (starts_due t v k)
      starts_fit = starts_left_lem.fits

      pub passed_done : {row' : List ℤ} → 4 * length (demands_of t v k) ≤ length old → row' ≡ sets row q (cells (starts_due t v k))
          → row' ≡ over (cells (demands_of t v k)) old
      passed_done h e = e ∙ starts_left_lem.due ∙ sets_over (demands_of t v k) old h

      pub passed_long : {row' : List ℤ} → row' ≡ sets row q (cells (starts_due t v k)) → length row' ≡ length old
      passed_long e = ap length e ∙ length-sets row q (cells (starts_due t v k)) ∙ starts_left_lem.long
