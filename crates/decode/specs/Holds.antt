-- A table by value in which some steps are finished and one is under way, and what each record makes of it.
use Rattle.std.specs.Prelude.{◌≡◌, refl, Bool, List, [], ◌∷◌, ◌++◌, map, get_or, replicate}
use Rattle.std.proofs.Math.Path.{sym, ap}
use Rattle.std.proofs.Common.{◌∙◌, append-nil, arith, add-one, get_or-set_same}
use Rattle.std.proofs.Math.Bool.{true, false}
use Rattle.std.proofs.lemmas.List.{map-append}
use Prim.Native.Nat.{ℕ, zero, suc, ◌+◌, ◌-◌, ◌*◌, ◌≤◌, ◌<◌}
use Rattle.std.proofs.Math.Decide.{dec_le}
use borrow.Author.Tests.{lt-ltb}
use Rattle.std.proofs.Math.ListN.{length, set, length-set, length-append}
use Rattle.std.proofs.Math.Seq.{slice, slice_empty, get_or-set_other}
use Rattle.table.specs.declared.Guard.{Guard}
use Rattle.table.specs.declared.Table.{Table}
use Rattle.table.specs.Step.{step_at, steps_from}
use Rattle.wire.specs.Listing.{Entry, guard, reset, guards_of, flagged, step_of}
use Rattle.format.specs.Encode.{guard_count}
use Rattle.filling.specs.Filling.{guards_so_far, put_guard, put_reset, put_step}
use Rattle.decode.specs.Slices.{slice_set_after, slice_set_within, slice_set_at, slice_clear}
use Rattle.decode.specs.Entries.{guards_append, guards_length, flagged_append, count_append}

-- the lengths of a table's arrays
pub record Sized (t : Table) : Type 0 where
  pub guards : length t.guards ≡ 64
  pub ends : length t.ends ≡ 18
  pub resets : length t.resets ≡ 119

-- place i of the ends: the number of guards before step i
abbrev pub end : Table → ℕ → ℕ
end t i = get_or t.ends i 0

-- In a table of n clocks the steps `done` are finished, and the next one has begun with the entries `begun`. Its end is the
-- number of guards so far, and no flag of a later step is set.
pub record Holds (n : ℕ) (t : Table) (done : List (List Entry)) (begun : List Entry) : Type 0 where
  pub clocks : t.clocks ≡ n
  pub steps : t.steps ≡ length done
  pub before : steps_from t 0 t.steps ≡ map step_of done
  pub under_way : step_at t t.steps ≡ step_of begun
  pub order : (i : ℕ) → i < t.steps → end t i ≤ end t (i + 1)
  pub last : end t t.steps ≡ guard_count done
  pub so_far : guards_so_far t ≡ guard_count done + length (guards_of begun)
  pub clear : (i : ℕ) → 7 * t.steps + 7 ≤ i → get_or t.resets i false ≡ false
  pub sized : Sized t

-- the ends do not fall
ends_rise : (t : Table) (d i k : ℕ) → i + d ≡ k → ((j : ℕ) → j < k → end t j ≤ end t (j + 1)) → end t i ≤ end t k
ends_rise t zero i k e order = let same : i ≡ k = omega arith in omega (arith, ap (end t) same)
ends_rise t (suc d) i k e order = omega (arith, order i (omega arith), ends_rise t d (i + 1) k (omega arith) order)

-- tables that agree on steps
steps_same : (t u : Table) (n i : ℕ) → ((j : ℕ) → j < i + n → step_at u j ≡ step_at t j) → steps_from u i n ≡ steps_from t i n
unfolding steps_from
steps_same t u zero i same = refl
steps_same t u (suc n) i same =
    λ k. same i (omega arith) k ∷ steps_same t u n (suc i) (λ j h. same j (omega arith)) k

-- one step more at the end
steps_snoc : (t : Table) (n i : ℕ) → steps_from t i (suc n) ≡ steps_from t i n ++ (step_at t (i + n) ∷ [])
unfolding steps_from
steps_snoc t zero i = ap (λ j. step_at t j ∷ []) (omega arith)
steps_snoc t (suc n) i =
    ap (λ ss. step_at t i ∷ ss) (steps_snoc t n (suc i) ∙ ap (λ j. steps_from t (suc i) n ++ (step_at t j ∷ [])) (omega arith))

-- a step by its parts
step_is : (t : Table) (i : ℕ) {a b : ℕ} {gs : List Guard} {fs : List Bool} → end t i ≡ a → end t (i + 1) ≡ b
    → slice a b t.guards ≡ gs → slice (7 * i) (7 * i + 7) t.resets ≡ fs → step_at t i ≡ record { guards = gs; flags = fs }
unfolding step_at
step_is t i {fs = fs} from to guards flags =
    (λ k. record { guards = slice (from k) (to k) t.guards; flags = flags k })
    ∙ ap (λ gs. record { guards = gs; flags = fs }) guards

module _ {n : ℕ} {t : Table} {done : List (List Entry)} {begun : List Entry} (h : Holds n t done begun) where
  -- the guards of finished steps end where the last of them ends
  pub ends_few : (i : ℕ) → i ≤ t.steps → end t i ≤ guard_count done
  ends_few i l = omega (arith, ends_rise t (t.steps - i) i t.steps (omega arith) h.order)

  -- a guard more in the step under way
  pub holds_guard : (g : Guard) → t.steps < 17 → guards_so_far t < 64 → Holds n (put_guard g t) done (begun ++ (guard g ∷ []))
  unfolding put_guard step_at step_of guards_of flagged
  holds_guard g fits room =
      rw (lt-ltb t.steps 17 fits, lt-ltb (guards_so_far t) 64 room)
      (record {
        clocks = h.clocks;
        steps = h.steps;
        before = steps_same t u t.steps 0 same ∙ h.before;
        under_way = now;
        order = λ i l. omega (arith, old i (omega arith), old (i + 1) (omega arith), h.order i l);
        last = old t.steps (omega arith) ∙ h.last;
        so_far = omega (arith, new, guards_length begun (guard g ∷ []));
        clear = h.clear;
        sized = record {
          guards = length-set t.guards count g ∙ h.sized.guards;
          ends = length-set t.ends (t.steps + 1) (count + 1) ∙ h.sized.ends;
          resets = h.sized.resets;
        };
      })
    where
      count : ℕ
      count = guards_so_far t

      u : Table
      u = record {
        clocks = t.clocks;
        steps = t.steps;
        guards = set t.guards count g;
        ends = set t.ends (t.steps + 1) (count + 1);
        resets = t.resets;
      }

      old : (i : ℕ) → i < t.steps + 1 → end u i ≡ end t i
      old i l = get_or-set_other t.ends (t.steps + 1) i (count + 1) 0 (omega arith)

      new : end u (t.steps + 1) ≡ count + 1
      new = get_or-set_same t.ends (t.steps + 1) (count + 1) 0 (omega arith)

      same : (j : ℕ) → j < 0 + t.steps → step_at u j ≡ step_at t j
      same j l =
          step_is u j (old j (omega arith)) (old (j + 1) (omega arith))
          (slice_set_after (end t j) (end t (j + 1)) t.guards count g (omega (arith, ends_few (j + 1) (omega arith)))) refl

      now : step_at u t.steps ≡ step_of (begun ++ (guard g ∷ []))
      now =
          step_is u t.steps (old t.steps (omega arith)) new
          (slice_set_at (end t t.steps) count t.guards g (omega arith) (omega arith)
          ∙ ap (λ s. s.guards ++ (g ∷ [])) h.under_way ∙ sym (guards_append begun (guard g ∷ [])))
          (ap (λ s. s.flags) h.under_way ∙ sym (flagged_append (replicate 7 false) begun (guard g ∷ [])))

  -- a reset more in the step under way
  pub holds_reset : (j : ℕ) → t.steps < 17 → j < 7 → Holds n (put_reset j t) done (begun ++ (reset j ∷ []))
  unfolding put_reset step_at step_of guards_of flagged
  holds_reset j fits room =
      rw (lt-ltb t.steps 17 fits, lt-ltb j 7 room)
      (record {
        clocks = h.clocks;
        steps = h.steps;
        before = steps_same t u t.steps 0 same ∙ h.before;
        under_way = now;
        order = h.order;
        last = h.last;
        so_far = h.so_far ∙ ap (λ gs. guard_count done + length gs) (sym guards);
        clear = λ i l. get_or-set_other t.resets (7 * t.steps + j) i true false (omega arith) ∙ h.clear i l;
        sized = record {
          guards = h.sized.guards;
          ends = h.sized.ends;
          resets = length-set t.resets (7 * t.steps + j) true ∙ h.sized.resets;
        };
      })
    where
      u : Table
      u = record {
        clocks = t.clocks;
        steps = t.steps;
        guards = t.guards;
        ends = t.ends;
        resets = set t.resets (7 * t.steps + j) true;
      }

      guards : guards_of (begun ++ (reset j ∷ [])) ≡ guards_of begun
      guards = guards_append begun (reset j ∷ []) ∙ append-nil (guards_of begun)

      same : (i : ℕ) → i < 0 + t.steps → step_at u i ≡ step_at t i
      same i l = step_is u i refl refl refl (slice_set_after (7 * i) (7 * i + 7) t.resets (7 * t.steps + j) true (omega arith))

      now : step_at u t.steps ≡ step_of (begun ++ (reset j ∷ []))
      now =
          step_is u t.steps refl refl (ap (λ s. s.guards) h.under_way ∙ sym guards)
          (slice_set_within (7 * t.steps) (7 * t.steps + 7) t.resets j true (omega arith)
          ∙ ap (λ s. set s.flags j true) h.under_way ∙ sym (flagged_append (replicate 7 false) begun (reset j ∷ [])))

  -- the step under way is finished, and the next one has no entry yet
  pub holds_step : t.steps < 16 → Holds n (put_step t) (done ++ (begun ∷ [])) []
  unfolding put_step step_at step_of guards_of flagged guard_count
  holds_step fits =
      rw (lt-ltb t.steps 16 fits)
      (record {
        clocks = h.clocks;
        steps = omega (arith, length-append done (begun ∷ []));
        before =
            ap (steps_from u 0) (add-one t.steps) ∙ steps_same t u (suc t.steps) 0 same
            ∙ steps_snoc t t.steps 0
            ∙ ap (λ i. steps_from t 0 t.steps ++ (step_at t i ∷ [])) (omega arith)
            ∙ (λ k. h.before k ++ (h.under_way k ∷ []))
            ∙ sym (map-append step_of done (begun ∷ []));
        under_way = now;
        order = λ i l. rises i l (dec_le (i + 1) t.steps);
        last = old (t.steps + 1) (omega arith) ∙ h.so_far ∙ sym count;
        so_far = omega (arith, new, count);
        clear = λ i l. h.clear i (omega arith);
        sized = record {
          guards = h.sized.guards;
          ends = length-set t.ends (t.steps + 2) (guards_so_far t) ∙ h.sized.ends;
          resets = h.sized.resets;
        };
      })
    where
      u : Table
      u = record {
        clocks = t.clocks;
        steps = t.steps + 1;
        guards = t.guards;
        ends = set t.ends (t.steps + 2) (guards_so_far t);
        resets = t.resets;
      }

      old : (i : ℕ) → i < t.steps + 2 → end u i ≡ end t i
      old i l = get_or-set_other t.ends (t.steps + 2) i (guards_so_far t) 0 (omega arith)

      count : guard_count (done ++ (begun ∷ [])) ≡ guard_count done + length (guards_of begun)
      count = omega (arith, count_append done (begun ∷ []))

      same : (i : ℕ) → i < 0 + suc t.steps → step_at u i ≡ step_at t i
      same i l = step_is u i (old i (omega arith)) (old (i + 1) (omega arith)) refl refl

      new : end u (t.steps + 1 + 1) ≡ guards_so_far t
      new =
          ap (end u) (omega arith)
          ∙ get_or-set_same t.ends (t.steps + 2) (guards_so_far t) 0 (omega arith)

      rises : (i : ℕ) → i < t.steps + 1 → Dec (i + 1 ≤ t.steps) → end u i ≤ end u (i + 1)
      rises i l (yes l') = omega (arith, old i (omega arith), old (i + 1) (omega arith), h.order i (omega arith))
      rises i l (no l') =
          let at : i ≡ t.steps = omega arith in
          omega (arith, old i (omega arith), old (i + 1) (omega arith), ap (end t) at, ap (λ k. end t (k + 1)) at)

      now : step_at u (t.steps + 1) ≡ step_of []
      now =
          step_is u (t.steps + 1) (old (t.steps + 1) (omega arith)) new (slice_empty (guards_so_far t) t.guards)
          (slice_clear false (7 * (t.steps + 1)) 7 t.resets (omega arith) (λ i l. h.clear i (omega arith)))
