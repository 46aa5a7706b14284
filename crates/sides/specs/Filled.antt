-- The row of keys, filled guard by guard.
use Rattle.std.specs.Prelude.{◌≡◌, refl, ◌≢◌, List, [], ◌∷◌, ◌++◌, ℕ, ◌+◌, ◌*◌, ◌≤◌, ◌<◌, min, length, get_or, set, replicate, take}
use Rattle.std.proofs.Common.{sym, ap, ◌∙◌, subst, arith, add-one, length-set, take-suc, length-take-le, get_or-set_same, get_or-set_other}
use Rattle.std.proofs.Math.Decide.{ℕ_discrete, dec_lt}
use Rattle.std.proofs.lemmas.List.{length-replicate, get_or-replicate, drop-append-le}
use Rattle.std.proofs.Math.Seq.{slice, slice_empty}
use Rattle.table.specs.Step.{FairGuard, step_at, Good}
use Rattle.table.specs.Steps.{guard_fair}
use Rattle.table.specs.declared.Guard.{Guard}
use Rattle.table.specs.declared.Table.{Table}
use Rattle.scaling.specs.Constants.{with_constant, with_constants, table_with, with_length, with_at}
use Rattle.sides.specs.Sides.{Side, none}
use Rattle.sides.specs.Tight.{solo_key, least, least_nil, least_own, least_other}
use Rattle.sides.specs.Keys.{key_at, keys_of, key_step, key_after, is_keys}

-- Steps 0 to k - 1 are done, and of step k the guards before place i.
pub record Filled (s : Side) (t : Table) (row : List ℕ) (k i : ℕ) : Type 0 where
  pub size : length row ≡ 112
  pub steps : k ≤ t.steps
  pub few : i ≤ 64
  pub first : get_or t.ends k 0 ≤ i
  pub last : k < t.steps → i ≤ get_or t.ends (k + 1) 0
  pub done : (q j : ℕ) → q < k → j < 7 → get_or row (7 * q + j) 0 ≡ key_at s t q j
  pub here : (j : ℕ) → k < t.steps → j < 7 → get_or row (7 * k + j) 0 ≡ least s j (slice (get_or t.ends k 0) i t.guards)
  pub after : (q j : ℕ) → k ≤ q → (k < t.steps → k < q) → q < 16 → j < 7 → get_or row (7 * q + j) 0 ≡ none

-- a slice with one place more
slice_more : (f t : ℕ) (l : List Guard) (d : Guard) → f ≤ t → t < length l
    → slice f (t + 1) l ≡ slice f t l ++ get_or l t d ∷ []
slice_more f t l d h k =
    rw (add-one t, take-suc l t d k)
    (drop-append-le f (take t l) (get_or l t d ∷ []) (omega (arith, length-take-le t l (omega arith))))

-- no guard of a step yet
least_empty : (s : Side) (j f i : ℕ) (l : List Guard) → i ≡ f → least s j (slice f i l) ≡ none
least_empty s j f i l e = rw (e, slice_empty f l) (least_nil s j)

-- The guards have the constants of a row cs.
module _ (s : Side) (t : Table) (good : Good t) (cs : List ℕ) where
  abbrev guards : List Guard
  guards = with_constants cs t.guards

  abbrev T : Table
  T = table_with cs t

  pub filled_first : Filled s T (replicate 112 none) 0 (get_or t.ends 0 0)
  filled_first =
      record {
        size = length-replicate 112 none;
        steps = omega arith;
        few = good.room 0 (omega arith);
        first = omega arith;
        last = λ l. good.order 0 l;
        done = λ q j l b. absurd (omega arith);
        here = λ j l b.
            get_or-replicate 112 (7 * 0 + j) none 0 (omega arith)
            ∙ sym (least_empty s j (get_or t.ends 0 0) (get_or t.ends 0 0) guards refl);
        after = λ q j a l m b. get_or-replicate 112 (7 * q + j) none 0 (omega arith);
      }

  module _ (row : List ℕ) (k i : ℕ) (f : Filled s T row k i) (l : k < t.steps) where
    -- the guard at place i lowers a key,
    module _ (b : i < get_or t.ends (k + 1) 0) (d : Guard) where
      abbrev g : Guard
      g = get_or t.guards i d

      -- with its constant of the row
      abbrev own : Guard
      own = with_constant (get_or cs i 0) g

      pub guard_room : i < 64
      guard_room = omega (arith, good.room (k + 1) (omega arith))

      pub guard_here : FairGuard (get_or t.guards i d)
      guard_here = guard_fair t k i d good l f.first b

      more : slice (get_or t.ends k 0) (i + 1) guards ≡ slice (get_or t.ends k 0) i guards ++ own ∷ []
      more =
          rw (← with_at cs t.guards i d (omega (arith, good.guards_size, guard_room)))
          (slice_more (get_or t.ends k 0) i guards d f.first
          (omega (arith, with_length cs t.guards, good.guards_size, guard_room)))

      pub filled_guard : (key v : ℕ) → key ≡ solo_key s own
          → v ≡ min (get_or row (7 * k + g.clock) 0) key → Filled s T (set row (7 * k + g.clock) v) k (i + 1)
      filled_guard key v o e =
          record {
            size = length-set row (7 * k + g.clock) v ∙ f.size;
            steps = f.steps;
            few = omega (arith, guard_room);
            first = omega (arith, f.first);
            last = λ _. omega arith;
            done = λ q j m b. other q j (omega arith) b ∙ f.done q j m b;
            here = λ j _ b. now j b (ℕ_discrete g.clock j);
            after = λ q j a h m b. let w : k < q = h l in other q j (omega arith) b ∙ f.after q j a h m b;
          }
        where
          other : (q j : ℕ) → q ≢ k → j < 7 → get_or (set row (7 * k + g.clock) v) (7 * q + j) 0 ≡ get_or row (7 * q + j) 0
          other q j n b =
              get_or-set_other row (7 * k + g.clock) (7 * q + j) v 0 (omega (arith, guard_here.last))

          now : (j : ℕ) → j < 7 → Dec (g.clock ≡ j)
              → get_or (set row (7 * k + g.clock) v) (7 * k + j) 0
              ≡ least s j (slice (get_or t.ends k 0) (i + 1) guards)
          now j b (yes c) =
              ap (λ n. get_or (set row (7 * k + g.clock) v) (7 * k + n) 0) (sym c)
              ∙ get_or-set_same row (7 * k + g.clock) v 0 (omega (arith, f.size, good.steps_few, guard_here.last))
              ∙ e
              ∙ ap (min (get_or row (7 * k + g.clock) 0)) o
              ∙ ap (λ n. min n (solo_key s own)) (ap (λ n. get_or row (7 * k + n) 0) c ∙ f.here j l b)
              ∙ sym (rw more (least_own s j (slice (get_or t.ends k 0) i guards) own c))
          now j b (no c) =
              get_or-set_other row (7 * k + g.clock) (7 * k + j) v 0 (omega arith)
              ∙ f.here j l b
              ∙ sym (rw more (least_other s j (slice (get_or t.ends k 0) i guards) own c))

    -- and after the last one comes the next step.
    pub filled_step : get_or t.ends (k + 1) 0 ≤ i → Filled s T row (k + 1) i
    filled_step b =
        record {
          size = f.size;
          steps = omega arith;
          few = f.few;
          first = b;
          last = λ m. omega (arith, end, good.order (k + 1) m);
          done = λ q j m c. now q j m c (dec_lt q k);
          here = λ j m c.
              f.after (k + 1) j (omega arith) (λ _. omega arith) (omega (arith, good.steps_few)) c
              ∙ sym (least_empty s j (get_or t.ends (k + 1) 0) i guards end);
          after = λ q j a h m c. f.after q j (omega arith) (λ _. omega arith) m c;
        }
      where
        end : i ≡ get_or t.ends (k + 1) 0
        end = omega (arith, f.last l)

        whole : slice (get_or t.ends k 0) i guards ≡ (step_at T k).guards
        whole = rw end (unfold step_at in refl)

        this : (j : ℕ) → j < 7 → get_or row (7 * k + j) 0 ≡ key_at s T k j
        this j c = f.here j l c ∙ ap (least s j) whole ∙ sym (key_step s T k j l)

        now : (q j : ℕ) → q < k + 1 → j < 7 → Dec (q < k) → get_or row (7 * q + j) 0 ≡ key_at s T q j
        now q j m c (yes w) = f.done q j w c
        now q j m c (no w) =
            let e : k ≡ q = omega arith in subst (λ n. get_or row (7 * n + j) 0 ≡ key_at s T n j) e (this j c)

  pub filled_last : (row : List ℕ) (k i : ℕ) → Filled s T row k i → t.steps ≤ k → row ≡ keys_of s T
  filled_last row k i f l = is_keys s T row f.size (λ q j m b. go q j m b (dec_lt q k))
    where
      go : (q j : ℕ) → q < 16 → j < 7 → Dec (q < k) → get_or row (7 * q + j) 0 ≡ key_at s T q j
      go q j m b (yes c) = f.done q j c b
      go q j m b (no c) =
          f.after q j (omega arith) (λ w. omega arith) m b ∙ sym (key_after s T q j (omega arith))
