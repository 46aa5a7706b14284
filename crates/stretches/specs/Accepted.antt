-- Whatever is accepted is the encoding of items: sound, and within the limits when written out; and the counts are those of the steps
-- written out.
use Rattle.std.specs.Prelude.{◌≡◌, ℕ, suc, ◌+◌, ◌*◌, ◌-◌, ◌≤◌, ◌<◌}
use Rattle.std.proofs.Math.Path.{refl, sym, ap, subst, subst₃}
use Rattle.std.proofs.Common.{◌∙◌}
use mathlib.Core.List.{List, [], ◌∷◌, ◌++◌, Memᴰ}
use native.Mathlib.Omega.{arith}
use Rattle.std.proofs.Math.ListN.{length}
use Rattle.table.specs.declared.Read.TheVariants as read
use Rattle.records.specs.declared.Tally.{Tally}
use Rattle.records.specs.declared.Verdict.{Verdict}
use Rattle.wire.specs.Records.{Bytes, Record, record_at, records_from, records}
use Rattle.wire.specs.Reading.{tail}
use Rattle.wire.specs.Listing.{Entry, guards_of}
use Rattle.records.specs.Rules.{body_size}
use Rattle.records.specs.Checking.{start}
use Rattle.format.specs.Encode.{entry_bytes, step_bytes, guard_count}
use Rattle.format.specs.Shapes.{entered, stepped, head_tally, refused_counted}
use Rattle.format.specs.Located.{Located, bytes_in, bytes_in_lem, located}
use Rattle.format.specs.Judged as plain
use Rattle.format.proofs.Ending.{before, Kept, kept_none, kept_entry, kept_finish, before_more, before_step, guards_last, bytes_entry}
use Rattle.stretches.specs.declared.Open.{Open}
use Rattle.stretches.specs.Reading.{Said, lift, opening, repeated, at_close, judge_in, check_in, read_out}
use Rattle.stretches.specs.Laws.{onward_in, check_said, out_counted}
use Rattle.stretches.specs.Judged.{Told, in_refused, in_step, in_open, in_close, told}
use Rattle.stretches.specs.Tree.{Items, none, step, stretch, items_on, encode_items, copies, expand, Sound, sound_none, sound_step, sound_stretch}
use Rattle.stretches.specs.Rest.{Counting, counting_steps, counting_guards, rest_bytes, ending, ending_same, Rest, rest_last, rest_more, rest_same}

-- From a tally, where stretches are open and a step has begun with some entries, bytes write the rest of the items down and end with
-- these counts.
pub record Ends (t : Tally) (stack : List Open) (begun : List Entry) (bytes : List ℕ) (n L g : ℕ) : Type 0 where
  pub items : Items
  pub outer : List Items
  pub written : before begun bytes ≡ rest_bytes items outer
  pub clocks : n ≡ t.clocks
  pub rest : Rest t.clocks t.steps stack items outer
  pub steps : L ≡ ending length (λ o. o.steps) t.steps stack items outer
  pub guards : (c : ℕ) → c + length (guards_of begun) ≡ t.guards → g ≡ ending guard_count (λ o. o.guards) c stack items outer
  pub some : 1 ≤ L
  pub few : L ≤ 16
  pub room : g ≤ 64

-- a step, and a stretch, before the rest
step_rest : (es : List Entry) (is : Items) (outer : List Items) → rest_bytes (step es is) outer ≡ step_bytes es ++ rest_bytes is outer
unfolding items_on
step_rest es is [] = refl
step_rest es is (j ∷ outer) = refl

stretch_rest : (times : ℕ) (js is : Items) (outer : List Items) → rest_bytes (stretch times js is) outer ≡ 7 ∷ times ∷ rest_bytes js (is ∷ outer)
unfolding items_on
stretch_rest times js is [] = refl
stretch_rest times js is (j ∷ outer) = refl

-- what is counted after a stretch is what was counted before it and inside it, so often as it is repeated
stretch_count : (count : List (List Entry) → ℕ) → Counting count → (c times : ℕ) (js is : Items)
    → repeated times c (c + count (expand js)) + count (expand is) ≡ c + count (expand (stretch times js is))
unfolding expand
stretch_count count h c times js is =
    let x = count (expand js) in
    let d : c + x - c ≡ x = omega arith in
    ap (λ n. c + times * n + count (expand is)) d
    ∙ (let e = h.sum (copies times (expand js)) (expand is) in let o = h.often times (expand js) in omega (arith, e, o))

module _ {t : Tally} {stack : List Open} {begun : List Entry} (k : Kept t begun) where
  ends_entry : {bytes : List ℕ} {n L g : ℕ} (e : Entry)
      → Ends (entered t e) stack (begun ++ (e ∷ [])) bytes n L g → Ends t stack begun (entry_bytes e ++ bytes) n L g
  ends_entry {bytes} e h =
      record {
        items = h.items;
        outer = h.outer;
        written = sym (before_more begun e bytes) ∙ h.written;
        clocks = h.clocks;
        rest = h.rest;
        steps = h.steps;
        guards = λ c q. h.guards c (omega (arith, q, guards_last begun e));
        some = h.some;
        few = h.few;
        room = h.room;
      }

  ends_finish : {bytes : List ℕ} {n L g : ℕ}
      → Ends (stepped t t.guards) stack [] bytes n L g → Ends t stack begun (4 ∷ bytes) n L g
  unfolding before guards_of expand guard_count
  ends_finish {bytes} h =
      record {
        items = step begun h.items;
        outer = h.outer;
        written = sym (before_step begun bytes) ∙ ap (λ bs. step_bytes begun ++ bs) h.written ∙ sym (step_rest begun h.items h.outer);
        clocks = h.clocks;
        rest = rest_same _ _ _ stack _ _ _ (omega arith) (sound_step _ begun h.items k.legal) h.rest;
        steps = h.steps ∙ ending_same length (λ o. o.steps) _ _ stack _ _ h.outer (omega arith);
        guards = λ c q. h.guards t.guards (omega arith)
            ∙ ending_same guard_count (λ o. o.guards) _ _ stack _ _ h.outer (omega (arith, q));
        some = h.some;
        few = h.few;
        room = h.room;
      }

  ends_end : stack ≡ [] → 1 ≤ t.steps → t.pending ≡ 0 → Ends t stack begun (5 ∷ []) t.clocks t.steps t.guards
  unfolding before items_on guards_of expand guard_count
  ends_end e some p =
      subst (λ s. Ends t s begun (5 ∷ []) t.clocks t.steps t.guards) (sym e)
      (record {
        items = none;
        outer = [];
        written = ap (λ es. before es (5 ∷ [])) (k.none p);
        clocks = refl;
        rest = rest_last _ _ (sound_none 0);
        steps = omega arith;
        guards = λ c q. omega (arith, q, ap (λ es. length (guards_of es)) (k.none p));
        some = some;
        few = k.few;
        room = k.room;
      })

  ends_open : {bytes : List ℕ} {n L g : ℕ} (times : ℕ) → 2 ≤ times → times ≤ 16 → length stack < 4 → t.pending ≡ 0
      → Ends t (opening t times ∷ stack) [] bytes n L g → Ends t stack begun (7 ∷ times ∷ bytes) n L g
  ends_open {bytes} {n} {L} {g} times low high deep p h =
      go h.items h.outer h.written h.rest h.steps h.guards
    where
      go : (js : Items) (outer : List Items) → before [] bytes ≡ rest_bytes js outer → Rest t.clocks t.steps (opening t times ∷ stack) js outer
          → L ≡ ending length (λ o. o.steps) t.steps (opening t times ∷ stack) js outer
          → ((c : ℕ) → c + length (guards_of []) ≡ t.guards → g ≡ ending guard_count (λ o. o.guards) c (opening t times ∷ stack) js outer)
          → Ends t stack begun (7 ∷ times ∷ bytes) n L g
      go js outer w (rest_more _ _ _ _ is more s l r) steps guards =
          unfold before guards_of in
          record {
            items = stretch times js is;
            outer = more;
            written = ap (λ es. before es (7 ∷ times ∷ bytes)) (k.none p) ∙ ap (λ bs. 7 ∷ times ∷ bs) w ∙ sym (stretch_rest times js is more);
            clocks = h.clocks;
            rest = rest_same _ _ _ stack _ _ _ (stretch_count length counting_steps t.steps times js is)
                (sound_stretch _ times js is low high deep (omega (arith, l)) s) r;
            steps = steps ∙ ending_same length (λ o. o.steps) _ _ stack _ _ more (stretch_count length counting_steps t.steps times js is);
            guards = λ c q.
                let here : t.guards ≡ c = omega (arith, q, ap (λ es. length (guards_of es)) (k.none p)) in
                guards t.guards (omega arith)
                ∙ ending_same guard_count (λ o. o.guards) _ _ stack _ _ more (stretch_count guard_count counting_guards t.guards times js is)
                ∙ ap (λ x. ending guard_count (λ o. o.guards) x stack (stretch times js is) more) here;
            some = h.some;
            few = h.few;
            room = h.room;
          }

  ends_close : {bytes : List ℕ} {n L g : ℕ} (o : Open) (rest : List Open) → stack ≡ o ∷ rest → t.pending ≡ 0 → o.steps < t.steps
      → Ends (at_close t o) rest [] bytes n L g → Ends t stack begun (8 ∷ bytes) n L g
  unfolding before items_on guards_of expand guard_count
  ends_close {bytes} {n} {L} {g} o rest e p some h =
      subst (λ s. Ends t s begun (8 ∷ bytes) n L g) (sym e)
      (record {
        items = none;
        outer = h.items ∷ h.outer;
        written = ap (λ es. before es (8 ∷ bytes)) (k.none p) ∙ ap (λ bs. 8 ∷ bs) h.written;
        clocks = h.clocks;
        rest = rest_more _ o rest none h.items h.outer (sound_none _) (omega (arith, some)) (rw (add0 t.steps) h.rest);
        steps = h.steps ∙ ap (λ x. ending length (λ o. o.steps) (repeated o.times o.steps x) rest h.items h.outer) (sym (add0 t.steps));
        guards = λ c q.
            let here : t.guards ≡ c + 0 = omega (arith, q, ap (λ es. length (guards_of es)) (k.none p)) in
            h.guards _ (omega arith)
            ∙ ap (λ x. ending guard_count (λ o. o.guards) (repeated o.times o.guards x) rest h.items h.outer) here;
        some = h.some;
        few = h.few;
        room = h.room;
      })
    where
      add0 : (n : ℕ) → n + 0 ≡ n
      add0 n = omega arith

  ends_last : (rs : List Record) → stack ≡ [] → 1 ≤ t.steps → t.pending ≡ 0 → {n L g : ℕ}
      → tail t rs ≡ read.Counted n L g → Ends t stack begun (5 ∷ bytes_in rs) n L g
  unfolding bytes_in
  ends_last [] e h p {n} {L} {g} q =
      let a : t.clocks ≡ n = cc in
      let b : t.steps ≡ L = cc in
      let c : t.guards ≡ g = cc in
      subst₃ (Ends t stack begun (5 ∷ [])) a b c (ends_end e h p)
  ends_last (r ∷ rs) e h p q = refused_counted q

module _ (len n L g : ℕ) where
  abbrev Ended : Tally → List Open → List Entry → List Record → Type 0
  Ended t stack begun rs = Ends t stack begun (bytes_in rs) n L g

  -- a record of a step
  ends_plain : (t : Tally) (stack : List Open) (begun : List Entry) (r : Record) (rs : List Record) → Kept t begun → 0 < r.place
      → ((u : Tally) (s : List Open) (es : List Entry) → Kept u es → check_in len u s rs ≡ read.Counted n L g → Ended u s es rs)
      → (r.kind ≡ 5 → stack ≡ [])
      → {v : Verdict} → plain.Told t r v → onward_in len t rs (lift stack v) ≡ read.Counted n L g → Ended t stack begun (r ∷ rs)
  unfolding bytes_in
  ends_plain t stack begun r rs k later rest out (plain.is_refused f) q = refused_counted q
  ends_plain t stack begun r rs k later rest out (plain.is_head m first shape low high) q = absurd (omega arith)
  ends_plain t stack begun r rs k later rest out (plain.is_entry e _ shape h new room) q =
      subst (λ x. Ended t stack begun (x ∷ rs)) (sym shape)
      (subst (λ bs. Ends t stack begun bs n L g) (sym (bytes_entry r.place e rs))
      (ends_entry k e (rest (entered t e) stack (begun ++ (e ∷ [])) (kept_entry k e h new room) q)))
  ends_plain t stack begun r rs k later rest out (plain.is_finish _ shape h) q =
      subst (λ x. Ended t stack begun (x ∷ rs)) (sym shape) (ends_finish k (rest (stepped t t.guards) stack [] (kept_finish k h) q))
  ends_plain t stack begun r rs k later rest out (plain.is_end _ shape some p) q =
      subst (λ x. Ended t stack begun (x ∷ rs)) (sym shape) (ends_last k rs (out (ap (λ x. x.kind) shape)) some p q)

  ends_told : (t : Tally) (stack : List Open) (begun : List Entry) (r : Record) (rs : List Record) → Kept t begun → 0 < r.place
      → ((u : Tally) (s : List Open) (es : List Entry) → Kept u es → check_in len u s rs ≡ read.Counted n L g → Ended u s es rs)
      → {w : Said} → Told t stack r w → onward_in len t rs w ≡ read.Counted n L g → Ended t stack begun (r ∷ rs)
  unfolding bytes_in
  ends_told t stack begun r rs k later rest (in_refused f e) q =
      refused_counted (sym (ap (onward_in len t rs) e) ∙ q)
  ends_told t stack begun r rs k later rest (in_step v e out h) q =
      ends_plain t stack begun r rs k later rest out h (sym (ap (onward_in len t rs) e) ∙ q)
  ends_told t stack begun r rs k later rest (in_open times e low high deep p shape _) q =
      subst (λ x. Ended t stack begun (x ∷ rs)) (sym shape)
      (ends_open k times low high deep p
      (rest t (opening t times ∷ stack) [] (kept_none t k.few k.room) (sym (ap (onward_in len t rs) e) ∙ q)))
  ends_told t stack begun r rs k later rest (in_close o outer is e p some few room shape) q =
      subst (λ x. Ended t stack begun (x ∷ rs)) (sym shape)
      (ends_close k o outer is p some
      (rest (at_close t o) outer [] (kept_none (at_close t o) few room) (sym (ap (onward_in len t rs) e) ∙ q)))

  pub ends : (rs : List Record) → ((r : Record) → Memᴰ r rs → Located 1 r)
      → (t : Tally) (stack : List Open) (begun : List Entry) → Kept t begun → check_in len t stack rs ≡ read.Counted n L g
      → Ended t stack begun rs
  unfolding check_in
  ends [] f t stack begun k e = refused_counted e
  ends (r ∷ rs) f t stack begun k e =
      let h = f r (Memᴰ.head refl) in
      ends_told t stack begun r rs k h.from (ends rs (λ x m. f x (Memᴰ.tail m))) (told t stack r h k.room)
      (sym (check_said len t stack r rs (judge_in t stack r) refl) ∙ e)

-- Bytes write items down: they are sound, within the limits when written out, and the counts are those of the steps written out.
pub record Written (bytes : List ℕ) (n L g : ℕ) : Type 0 where
  pub items : Items
  pub sound : Sound n 0 items
  pub written : encode_items n items ≡ bytes
  pub clocks_some : 1 ≤ n
  pub clocks_few : n ≤ 6
  pub steps : L ≡ length (expand items)
  pub guards : g ≡ guard_count (expand items)
  pub some : 1 ≤ L
  pub few : L ≤ 16
  pub room : g ≤ 64

-- the head, and then the rest
written_head : (bytes : List ℕ) (r : Record) (rs : List Record) → r.place ≡ 0 → bytes_in (r ∷ rs) ≡ bytes
    → ((x : Record) → Memᴰ x rs → Located 1 x) → (n L g : ℕ) → {w : Said} → Told start [] r w
    → onward_in (length bytes) start rs w ≡ read.Counted n L g → Written bytes n L g
unfolding before guards_of encode_items bytes_in
written_head bytes r rs first b f n L g (in_refused x e) q = refused_counted (sym (ap (onward_in (length bytes) start rs) e) ∙ q)
written_head bytes r rs first b f n L g (in_open times e low high deep p shape later) q = absurd (later first)
written_head bytes r rs first b f n L g (in_close o outer e _ _ _ _ _ _) q = let z : 0 ≡ suc (length outer) = ap length e in absurd (omega arith)
written_head bytes r rs first b f n L g (in_step v e _ h) q = go h (sym (ap (onward_in (length bytes) start rs) e) ∙ q)
  where
    go : {v : Verdict} → plain.Told start r v → onward_in (length bytes) start rs (lift [] v) ≡ read.Counted n L g → Written bytes n L g
    go (plain.is_refused _) q = refused_counted q
    go (plain.is_entry e p shape h new room) q = absurd (omega (arith, first, p))
    go (plain.is_finish p shape h) q = absurd (omega (arith, first, p))
    go (plain.is_end p shape _ _) q = absurd (omega (arith, first, p))
    go (plain.is_head m _ shape low high) q =
        let w = ends (length bytes) n L g rs f (head_tally m) [] [] (kept_none (head_tally m) (omega arith) (omega arith)) q in
        finish w w.items w.outer w.written w.rest w.steps w.guards
      where
        finish : Ends (head_tally m) [] [] (bytes_in rs) n L g → (is : Items) (outer : List Items) → before [] (bytes_in rs) ≡ rest_bytes is outer
            → Rest m 0 [] is outer → L ≡ ending length (λ o. o.steps) 0 [] is outer
            → ((c : ℕ) → c + length (guards_of []) ≡ 0 → g ≡ ending guard_count (λ o. o.guards) c [] is outer) → Written bytes n L g
        finish w is outer written (rest_last _ _ s) steps guards =
            subst (λ x. Written bytes x L g) (sym w.clocks)
            (record {
              items = is;
              sound = s;
              written = ap (λ bs. 1 ∷ m ∷ bs) (sym written) ∙ ap (λ x. bytes_in (x ∷ rs)) (sym shape) ∙ b;
              clocks_some = low;
              clocks_few = high;
              steps = omega (arith, steps);
              guards = let e = guards 0 (omega arith) in omega (arith, e);
              some = w.some;
              few = w.few;
              room = w.room;
            })

pub accepted_written : (bytes : List ℕ) → Bytes bytes → (n L g : ℕ) → read_out bytes ≡ read.Counted n L g → Written bytes n L g
accepted_written bytes small n L g accepted = go bytes small (out_counted bytes accepted).1
  where
    go : (bs : List ℕ) → Bytes bs → check_in (length bs) start [] (records bs) ≡ read.Counted n L g → Written bs n L g
    go [] h e = unfold check_in records_from in refused_counted e
    go (k ∷ rest) h e =
        let r = record_at 0 k rest in
        let rs = records_from (body_size k) 1 rest in
        unfold records_from in
        written_head (k ∷ rest) r rs refl (bytes_in_lem 0 0 (k ∷ rest)) (located (body_size k) 1 rest (λ i. h (suc i))) n L g
        (told start [] r (located 0 0 (k ∷ rest) h r (Memᴰ.head refl)) (omega arith))
        (sym (check_said (length (k ∷ rest)) start [] r rs (judge_in start [] r) refl) ∙ e)
