-- What is noted of a record, by its tests and its kind.
use Rattle.std.specs.Prelude.{◌≡◌, Bool, List, ℕ, ◌+◌}
use Rattle.std.proofs.Math.Path.{refl, ap}
use Rattle.std.proofs.Common.{sym, ◌∙◌, ne_eqb}
use Rattle.std.proofs.Math.Bool.{true, false, cond}
use Rattle.std.proofs.Math.Dec.{eqb}
use Rattle.table.specs.declared.Guard.{Guard}
use Rattle.records.specs.declared.Tally.{Tally}
use Rattle.wire.specs.Records.{record_at}
use Rattle.wire.specs.Reading.{byte}
use Rattle.wire.specs.Listing.{reset, guard_in, head, entry, close, content_of}
use Rattle.scanning.specs.declared.Progress.{Progress}
use Rattle.scanning.specs.Progress.{meets, failed, guard_tested, step_finished, noted}

-- ---- a guard, by its tests
module _ (readings : List ℕ) (ticks : ℕ) (t : Tally) (p : Progress) (g : Guard) where
  -- what the two tests make of it
  abbrev tested : Bool → Bool → Progress
  tested on met = cond on (cond met p (failed p (t.guards + 1))) p

  pub tested_off : p.on ≡ false → p ≡ guard_tested readings ticks t p g
  unfolding guard_tested
  tested_off e = ap (λ b. tested b (meets readings ticks g)) (sym e)

  pub tested_met : meets readings ticks g ≡ true → p ≡ guard_tested readings ticks t p g
  unfolding guard_tested
  tested_met m = go p.on ∙ ap (tested p.on) (sym m)
    where
      go : (on : Bool) → p ≡ tested on true
      go true = refl
      go false = refl

  pub tested_failed : p.on ≡ true → meets readings ticks g ≡ false → failed p (t.guards + 1) ≡ guard_tested readings ticks t p g
  unfolding guard_tested
  tested_failed e m = λ i. tested (sym e i) (sym m i)

-- ---- the end of a step
module _ (t : Tally) (p : Progress) where
  -- with some resets
  abbrev with_resets : ℕ → Progress
  with_resets n = record { on = p.on; first = p.first; failing = p.failing; resets = n }

  -- its own resets are noted
  abbrev pub own_noted : Progress
  own_noted = with_resets (cond p.on t.pending p.resets)

  pub own_on : p.on ≡ true → with_resets t.pending ≡ own_noted
  own_on e = ap (λ b. with_resets (cond b t.pending p.resets)) (sym e)

  pub own_off : p.on ≡ false → p ≡ own_noted
  own_off e = ap (λ b. with_resets (cond b t.pending p.resets)) (sym e)

  -- and then whether the next step is the one asked for
  module _ (step : ℕ) (q : Progress) (own : q ≡ own_noted) where
    pub next_on : eqb (t.steps + 2) step ≡ true
        → record { on = eqb (t.steps + 2) step; first = t.guards; failing = q.failing; resets = q.resets } ≡ step_finished step t p
    unfolding step_finished
    next_on e = λ i.
        record {
          on = eqb (t.steps + 2) step;
          first = cond (sym e i) t.guards p.first;
          failing = (own i).failing;
          resets = (own i).resets;
        }

    pub next_off : eqb (t.steps + 2) step ≡ false
        → record { on = eqb (t.steps + 2) step; first = q.first; failing = q.failing; resets = q.resets } ≡ step_finished step t p
    unfolding step_finished
    next_off e = λ i.
        record {
          on = eqb (t.steps + 2) step;
          first = cond (sym e i) t.guards (own i).first;
          failing = (own i).failing;
          resets = (own i).resets;
        }

-- ---- a record, by its kind
module _ (step : ℕ) (readings : List ℕ) (ticks : ℕ) (t : Tally) (p : Progress) (at : ℕ) (rest : List ℕ) (k : ℕ) where
  abbrev here : ℕ → Progress
  here n = noted step readings ticks t p (content_of (record_at at n rest))

  pub noted_guard : k ≡ 2 → guard_tested readings ticks t p (guard_in (record_at at 2 rest)) ≡ here k
  noted_guard e = ap here (sym e)

  pub noted_finish : k ≡ 4 → step_finished step t p ≡ here k
  noted_finish e = ap here (sym e)

  -- any other record makes nothing of it
  pub noted_other : (k ≡ 2 → ⊥) → (k ≡ 4 → ⊥) → p ≡ here k
  noted_other a b = go (eqb k 1) (eqb k 3) ∙ ap (noted step readings ticks t p) (sym others)
    where
      first : ℕ
      first = byte (record_at at k rest) 0

      others : content_of (record_at at k rest) ≡ cond (eqb k 1) (head first) (cond (eqb k 3) (entry (reset first)) close)
      others = simp (ne_eqb k 2 a, ne_eqb k 4 b)

      go : (c d : Bool) → p ≡ noted step readings ticks t p (cond c (head first) (cond d (entry (reset first)) close))
      go true d = refl
      go false true = refl
      go false false = refl
