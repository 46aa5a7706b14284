-- What accepted bytes mean: a table without stretches, within the limits, which is the items written out.
use Rattle.std.specs.Prelude.{◌≡◌, refl, ℕ, zero, suc, ◌+◌, ◌≤◌, length}
use Rattle.std.proofs.Common.{sym, ap, subst, ◌∙◌, ⊎_elim, arith}
use mathlib.Core.List.Memᴰ
use mathlib.Core.List.{List, [], ◌∷◌, ◌++◌, append_assoc, append-nil, Memᴰ}
use Rattle.table.specs.declared.Read.TheVariants as read
use Rattle.wire.specs.Records.{Bytes, Record, records_from}
use Rattle.wire.specs.Reading.{read_of}
use Rattle.wire.specs.Listing.{Entry, guard, reset, listing}
use Rattle.format.specs.Encode.{encode, entry_bytes, step_bytes, LegalEntry, LegalStep, LegalSteps}
use Rattle.format.proofs.Accepted.{Counted}
use Rattle.format.specs.Shapes.{entry_at, guard_back}
use Rattle.format.proofs.Encoded.{records_more}
use Rattle.format.proofs.Encoded as plain
use Rattle.stretches.specs.Reading.{read_out}
use Rattle.stretches.specs.Tree.{Items, none, step, stretch, items_on, encode_items, copies, expand, Sound, sound_none, sound_step, sound_stretch}
use Rattle.stretches.specs.Listing.{Level, steps_out, written_out}
use Rattle.stretches.proofs.Encoded.{longest}
use Rattle.stretches.specs.Accepted.{Written, accepted_written}

-- ---- the steps that the bytes of items mean are the items written out
entry_out : (n : ℕ) (begun : List Entry) (done : List (List Entry)) (around : List Level) (at : ℕ) (e : Entry) (rs : List Record) → LegalEntry n e
    → steps_out begun done around (entry_at at e ∷ rs) ≡ steps_out (begun ++ (e ∷ [])) done around rs
unfolding steps_out
entry_out n begun done around at (guard g) rs legal = ap (λ b. steps_out (begun ++ (guard b ∷ [])) done around rs) (guard_back g legal.3)
entry_out n begun done around at (reset j) rs legal = refl

out_step : (n : ℕ) (rest : List ℕ) (answer : List (List Entry)) (around : List Level) (es begun : List Entry) (done : List (List Entry)) (at : ℕ)
    → ((e : Entry) → Memᴰ e es → LegalEntry n e)
    → ((p : ℕ) → steps_out [] (done ++ ((begun ++ es) ∷ [])) around (records_from 0 p rest) ≡ answer)
    → steps_out begun done around (records_from 0 at (step_bytes es ++ rest)) ≡ answer
unfolding records_from step_bytes steps_out
out_step n rest answer around [] begun done at legal then =
    ap (λ s. steps_out [] (done ++ (s ∷ [])) around (records_from 0 (at + 1) rest)) (sym (append-nil begun)) ∙ then (at + 1)
out_step n rest answer around (e ∷ es) begun done at legal then =
    ap (steps_out begun done around) (records_more at e es rest)
    ∙ entry_out n begun done around at e (records_from 0 (at + length (entry_bytes e)) (step_bytes es ++ rest)) (legal e (Memᴰ.head refl))
    ∙ out_step n rest answer around es (begun ++ (e ∷ [])) done (at + length (entry_bytes e)) (λ f m. legal f (Memᴰ.tail m))
    (λ p. ap (λ s. steps_out [] (done ++ (s ∷ [])) around (records_from 0 p rest)) (append_assoc begun (e ∷ []) es) ∙ then p)

out_items : (n d : ℕ) (is : Items) (rest : List ℕ) (answer : List (List Entry)) (around : List Level) (done : List (List Entry)) (at : ℕ) → Sound n d is
    → ((p : ℕ) → steps_out [] (done ++ expand is) around (records_from 0 p rest) ≡ answer)
    → steps_out [] done around (records_from 0 at (items_on is rest)) ≡ answer
unfolding records_from items_on expand steps_out
out_items n d none rest answer around done at (sound_none _) then =
    ap (λ ss. steps_out [] ss around (records_from 0 at rest)) (sym (append-nil done)) ∙ then at
out_items n d (step es is) rest answer around done at (sound_step _ _ _ legal s) then =
    out_step n (items_on is rest) answer around es [] done at legal.entries
    (λ p. out_items n d is rest answer around (done ++ (es ∷ [])) p s
    (λ q. ap (λ ss. steps_out [] ss around (records_from 0 q rest)) (append_assoc done (es ∷ []) (expand is)) ∙ then q))
out_items n d (stretch times js is) rest answer around done at (sound_stretch _ _ _ _ _ _ _ _ inner s) then =
    out_items n (suc d) js (8 ∷ items_on is rest) answer (record { times = times; steps = done } ∷ around) [] (at + 1 + 1) inner
    (λ p. out_items n d is rest answer around (done ++ copies times (expand js)) (p + 1) s
    (λ q. ap (λ ss. steps_out [] ss around (records_from 0 q rest)) (append_assoc done (copies times (expand js)) (expand is)) ∙ then q))

pub written_out_lem : (n : ℕ) (is : Items) → Sound n 0 is → written_out (encode_items n is) ≡ record { clocks = n; steps = expand is }
unfolding written_out encode_items records_from steps_out
written_out_lem n is s = λ i. record { clocks = n; steps = out_items n 0 is (5 ∷ []) (expand is) [] [] 2 s (λ p. refl) i }

-- ---- and these are within 01's limits
times_member : (k : ℕ) (ss : List (List Entry)) (s : List Entry) → Memᴰ s (copies k ss) → Memᴰ s ss
unfolding copies
times_member zero ss s m = absurd (Memᴰ.not-nil m)
times_member (suc k) ss s m = ⊎_elim (λ a. a) (λ b. times_member k ss s b) (Memᴰ.append_cases ss m)

sound_legal : (n d : ℕ) (is : Items) → Sound n d is → LegalSteps n (expand is)
unfolding expand
sound_legal n d is (sound_none _) s m = absurd (Memᴰ.not-nil m)
sound_legal n d is (sound_step _ es js legal h) s m =
    ⊎_elim (λ e. subst (LegalStep n) (sym e) legal) (λ o. sound_legal n d js h s o) (Memᴰ.cases_cons m)
sound_legal n d is (sound_stretch _ times js ks low high deep some inner h) s m =
    ⊎_elim (λ a. sound_legal n (suc d) js inner s (times_member times (expand js) s a)) (λ b. sound_legal n d ks h s b)
    (Memᴰ.append_cases (copies times (expand js)) m)

-- Accepted bytes mean a table within the limits, and the counts are its own.
pub accepted_counted : (bytes : List ℕ) → Bytes bytes → (n L g : ℕ)
    → read_out bytes ≡ read.Counted n L g → Counted (written_out bytes) n L g
accepted_counted bytes small n L g e =
    subst (λ l. Counted l n L g) (sym (written_out_lem n w.items w.sound) ∙ ap written_out w.written)
    (record {
      legal = record {
        clocks_some = w.clocks_some;
        clocks_few = w.clocks_few;
        steps_some = omega (arith, w.steps, w.some);
        steps_few = omega (arith, w.steps, w.few);
        guards_few = omega (arith, w.guards, w.room);
        each = sound_legal n 0 w.items w.sound;
      };
      clocks = refl;
      steps = w.steps;
      guards = w.guards;
    })
  where
    w : Written bytes n L g
    w = accepted_written bytes small n L g e

-- Accepted bytes mean a table without stretches: its encoding is accepted, counted the same, and read back as the steps written out.
pub means_plain : (bytes : List ℕ) → Bytes bytes → (n L g : ℕ)
    → read_out bytes ≡ read.Counted n L g
    → (read_of (encode (written_out bytes)) ≡ read.Counted n L g) × (listing (encode (written_out bytes)) ≡ written_out bytes)
means_plain bytes small n L g e =
    let w = accepted_counted bytes small n L g e in
    let p = plain.read_encoded (written_out bytes) w.legal in
    (p.0 ∙ (λ i. read.Counted (sym w.clocks i) (sym w.steps i) (sym w.guards i)), p.1)

-- They are at most 531, as those of a table without stretches are.
pub accepted_short : (bytes : List ℕ) → Bytes bytes → (n L g : ℕ) → read_out bytes ≡ read.Counted n L g → length bytes ≤ 531
accepted_short bytes small n L g e =
    let w = accepted_written bytes small n L g e in
    subst (λ bs. length bs ≤ 531) w.written
    (longest n w.items w.clocks_few w.sound (omega (arith, w.steps, w.few)) (omega (arith, w.guards, w.room)))
