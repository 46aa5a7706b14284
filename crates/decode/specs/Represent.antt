-- The table by value that an encoding fills in has the steps of the table that was encoded.
use Rattle.std.specs.Prelude.{◌≡◌, refl, false, ℕ, ◌+◌, ◌≤◌, ◌<◌, length, get_or}
use Rattle.std.proofs.Common.{sym, subst, arith}
use mathlib.Core.List.{List, [], ◌∷◌, ◌++◌, append-nil, Memᴰ}
use Rattle.std.proofs.Math.ListN.{length-append}
use Rattle.std.proofs.Math.Seq.{append_snoc}
use Rattle.table.specs.declared.Table.{Table}
use Rattle.table.specs.Step.{step_at, steps_from, steps_of, Fairs, Good}
use Rattle.wire.specs.Records.{records}
use Rattle.wire.specs.Listing.{Entry, guard, reset, Listing, guards_of, flagged, step_of, cycle}
use Rattle.format.specs.Encode.{encode, guard_count, LegalEntry, Legal}
use Rattle.filling.specs.Filling.{empty, put_head, put_step}
use Rattle.decode.specs.Fill.{filled}
use Rattle.format.specs.Fair.{legal_fair}
use Rattle.decode.specs.Slices.{get_d_all}
use Rattle.decode.specs.Entries.{guards_length, count_append}
use Rattle.decode.specs.Puts.{put_entry, put_entries, put_steps, filled_written}
use Rattle.decode.specs.Holds.{Holds, ends_few, holds_guard, holds_reset, holds_step}

-- A table by value is good, and has the clocks, the steps and the number of guards of a table as it is written.
pub record Represents (t : Table) (l : Listing) : Type 0 where
  pub clocks : t.clocks ≡ l.clocks
  pub steps : t.steps ≡ length l.steps
  pub same : steps_of t ≡ cycle l
  pub guards : get_or t.ends t.steps 0 ≡ guard_count l.steps
  pub good : Good t

-- a head, and no step yet
holds_head : (n : ℕ) → Holds n (put_head n empty) [] []
unfolding put_head empty steps_from step_at step_of guards_of flagged guard_count
holds_head n =
    record {
      clocks = refl;
      steps = refl;
      before = refl;
      under_way = refl;
      order = λ i l. omega arith;
      last = refl;
      so_far = refl;
      clear = λ i l. get_d_all false 119 i;
      sized = record { guards = refl; ends = refl; resets = refl };
    }

-- Legal entries and steps, put in one after the other, are what the table then holds.
module _ {n : ℕ} (few : n ≤ 6) where
  holds_entry : {t : Table} {done : List (List Entry)} {begun : List Entry} (e : Entry) → Holds n t done begun → LegalEntry n e
      → length done < 16 → guard_count done + length (guards_of begun) + length (guards_of (e ∷ [])) ≤ 64
      → Holds n (put_entry e t) done (begun ++ (e ∷ []))
  unfolding guards_of
  holds_entry (guard g) h legal fits room = holds_guard h g (omega arith) (omega arith)
  holds_entry (reset j) h legal fits room = holds_reset h j (omega arith) (omega (arith, legal.1))

  holds_entries : {t : Table} {done : List (List Entry)} {begun : List Entry} (es : List Entry) → Holds n t done begun
      → ((e : Entry) → Memᴰ e es → LegalEntry n e)
      → length done < 16 → guard_count done + length (guards_of begun) + length (guards_of es) ≤ 64
      → Holds n (put_entries es t) done (begun ++ es)
  unfolding put_entries
  holds_entries [] h legal fits room = rw append-nil h
  holds_entries {t = t} {done = done} {begun = begun} (e ∷ es) h legal fits room =
      rw (← append_snoc begun e es)
      (holds_entries {t = put_entry e t} es
      (holds_entry e h (legal e (Memᴰ.head refl)) fits (omega (arith, guards_length (e ∷ []) es)))
      (λ e' m. legal e' (Memᴰ.tail m)) fits
      (omega (arith, guards_length begun (e ∷ []), guards_length (e ∷ []) es)))

  holds_steps : {t : Table} {done : List (List Entry)} (ss : List (List Entry)) → Holds n t done []
      → ((s : List Entry) → Memᴰ s ss → (e : Entry) → Memᴰ e s → LegalEntry n e)
      → length done + length ss ≤ 16 → guard_count done + guard_count ss ≤ 64 → Holds n (put_steps ss t) (done ++ ss) []
  unfolding put_steps guard_count guards_of
  holds_steps [] h legal fits room = rw append-nil h
  holds_steps {t = t} {done = done} (s ∷ ss) h legal fits room =
      rw (← append_snoc done s ss)
      (holds_steps {t = put_step (put_entries s t)} ss (holds_step one (omega (arith, one.steps))) (λ s' m. legal s' (Memᴰ.tail m))
      (omega (arith, length-append done (s ∷ []))) (omega (arith, count_append done (s ∷ []))))
    where
      one : Holds n (put_entries s t) done s
      one = holds_entries s h (legal s (Memᴰ.head refl)) (omega arith) (omega arith)

-- a table by value in which all steps are finished
represents : (l : Listing) (t : Table) → Legal l → Holds l.clocks t l.steps [] → Represents t l
unfolding steps_of
represents l t legal h =
    record {
      clocks = h.clocks;
      steps = h.steps;
      same = h.before;
      guards = h.last;
      good = record {
        clocks_some = omega arith;
        clocks_few = omega arith;
        steps_some = omega arith;
        steps_few = omega arith;
        order = h.order;
        room = λ i l'. omega (arith, ends_few h i l');
        guards_size = h.sized.guards;
        ends_size = h.sized.ends;
        resets_size = h.sized.resets;
        fair = subst Fairs (sym h.before) (legal_fair l legal);
      };
    }

-- what the records of a legal table's encoding fill in represents the table
pub filled_encoded : (l : Listing) → Legal l → Represents (filled empty (records (encode l))) l
unfolding guard_count
filled_encoded l legal =
    rw (filled_written l legal)
    (represents l _ legal
    (holds_steps legal.clocks_few l.steps (holds_head l.clocks) (λ s m. (legal.each s m).entries) (omega arith) (omega arith)))
