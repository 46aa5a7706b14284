-- Records after the head that are accepted write the rest of the steps down.
use Rattle.std.specs.Prelude.{◌≡◌, refl, true, false, ℕ, ◌+◌, ◌≤◌, ◌<◌, get_or}
use Rattle.std.proofs.Math.Path.{sym, ap, subst, subst₃}
use Rattle.std.proofs.Common.{◌∙◌, subst₂, arith}
use Rattle.std.proofs.Math.Logic.{⊎_elim}
use mathlib.Core.List.Memᴰ
use mathlib.Core.List.{
  List,
  [],
  ◌∷◌,
  ◌++◌,
  append_assoc,
  append-nil,
  Memᴰ,
}
use Rattle.std.proofs.Math.ListN.{length}
use Rattle.basics.specs.Distinct.{Distinct, Each, each_last, distinct_last}
use Rattle.table.specs.declared.Read.TheVariants as read
use Rattle.records.specs.declared.Tally.{Tally}
use Rattle.records.specs.declared.Verdict.{Verdict}
use Rattle.records.specs.Rules.{is_free, marked}
use Rattle.records.specs.Marks.{marked_same, marked_keeps, marked_some}
use Rattle.wire.specs.Records.{Record}
use Rattle.records.specs.Checking.{check_of}
use Rattle.wire.specs.Reading.{judge_of, tail, check}
use Rattle.wire.specs.Laws.{onward}
use Rattle.wire.specs.Listing.{Entry, guard, reset, steps_in, guards_of, resets_of}
use Rattle.format.specs.Encode.{entry_bytes, step_bytes, steps_bytes, guard_count, LegalEntry, LegalStep, LegalSteps}
use Rattle.format.specs.Shapes.{
  entry_at,
  weight,
  digit_of,
  fresh,
  entered,
  stepped,
  check_judged,
  steps_entry,
  guards_more,
  refused_counted,
  false_true,
}
use Rattle.format.specs.Located.{Located, bytes_in}
use Rattle.format.specs.Judged.{Told, is_refused, is_head, is_entry, is_finish, is_end, judged}

-- the bytes of entries, and then others
unfoldable pub before : List Entry → List ℕ → List ℕ
before [] bs = bs
before (e ∷ es) bs = entry_bytes e ++ before es bs

-- From a tally, with some entries of a step begun, bytes write the steps down and end with these counts.
pub record Ends (t : Tally) (begun : List Entry) (bytes : List ℕ) (ss : List (List Entry)) (n L g : ℕ) : Type 0 where
  pub written : before begun bytes ≡ steps_bytes ss
  pub clocks : n ≡ t.clocks
  pub steps : L ≡ t.steps + length ss
  pub guards : g + length (guards_of begun) ≡ t.guards + guard_count ss
  pub some : 1 ≤ L
  pub few : L ≤ 16
  pub room : g ≤ 64
  pub entries : LegalSteps t.clocks ss

-- no clock that entries reset is free
abbrev Known : ℕ → List Entry → Type 0
Known m es = Each (λ j. is_free m j ≡ false) (resets_of es)

-- what a tally keeps to, while a step has begun with some entries
pub record Kept (t : Tally) (begun : List Entry) : Type 0 where
  pub few : t.steps ≤ 16
  pub room : t.guards ≤ 64
  pub none : t.pending ≡ 0 → begun ≡ []
  pub legal : LegalStep t.clocks begun
  pub known : Known t.pending begun

-- before the first entry
pub kept_none : (t : Tally) → t.steps ≤ 16 → t.guards ≤ 64 → Kept t []
unfolding resets_of
kept_none t few room =
    record {
      few = few;
      room = room;
      none = λ _. refl;
      legal = record { entries = λ e m. absurd (Memᴰ.not-nil m); once = λ i j l b. absurd (omega arith) };
      known = λ i l. absurd (omega arith);
    }

pub before_more : (es : List Entry) (e : Entry) (bs : List ℕ) → before (es ++ (e ∷ [])) bs ≡ before es (entry_bytes e ++ bs)
unfolding before
before_more [] e bs = refl
before_more (f ∷ es) e bs = ap (λ rest. entry_bytes f ++ rest) (before_more es e bs)

pub before_step : (es : List Entry) (bs : List ℕ) → step_bytes es ++ bs ≡ before es (4 ∷ bs)
unfolding before step_bytes
before_step [] bs = refl
before_step (e ∷ es) bs =
    append_assoc (entry_bytes e) (step_bytes es) bs ∙ ap (λ rest. entry_bytes e ++ rest) (before_step es bs)

pub guards_last : (es : List Entry) (e : Entry) → length (guards_of (es ++ (e ∷ []))) ≡ length (guards_of es) + weight e
unfolding guards_of
guards_last [] e = omega (arith, guards_more e [])
guards_last (f ∷ es) e = omega (arith, guards_more f (es ++ (e ∷ [])), guards_more f es, guards_last es e)

resets_last : (es : List Entry) (e : Entry) → resets_of (es ++ (e ∷ [])) ≡ resets_of es ++ resets_of (e ∷ [])
unfolding resets_of
resets_last [] e = refl
resets_last (guard g ∷ es) e = resets_last es e
resets_last (reset j ∷ es) e = ap (λ js. j ∷ js) (resets_last es e)

pub bytes_entry : (at : ℕ) (e : Entry) (rs : List Record) → bytes_in (entry_at at e ∷ rs) ≡ entry_bytes e ++ bytes_in rs
unfolding bytes_in
bytes_entry at (guard g) rs = refl
bytes_entry at (reset j) rs = refl

module _ {t : Tally} {begun : List Entry} (k : Kept t begun) where
  -- an entry goes on with the step: what it resets was free, and is not from there on
  once_entry : (e : Entry) → fresh t.pending e ≡ true → Distinct (resets_of (begun ++ (e ∷ [])))
  unfolding resets_of
  once_entry (guard g) new = rw (resets_last begun (guard g), append-nil) k.legal.once
  once_entry (reset j) new =
      rw (resets_last begun (reset j))
      (distinct_last (resets_of begun) j k.legal.once
      (λ i l e. false_true (sym (k.known i l) ∙ ap (is_free t.pending) e ∙ new)))

  known_entry : (e : Entry) → Known (marked t.pending (digit_of e)) (begun ++ (e ∷ []))
  unfolding resets_of
  known_entry (guard g) =
      rw (resets_last begun (guard g), append-nil)
      (λ i l. marked_keeps t.pending (get_or (resets_of begun) i 0) 0 (k.known i l))
  known_entry (reset j) =
      rw (resets_last begun (reset j))
      (each_last (λ i. is_free (marked t.pending j) i ≡ false) (resets_of begun) j
      (λ i l. marked_keeps t.pending (get_or (resets_of begun) i 0) j (k.known i l)) (marked_same t.pending j))

  pub kept_entry : (e : Entry) → LegalEntry t.clocks e → fresh t.pending e ≡ true → t.guards + weight e ≤ 64
      → Kept (entered t e) (begun ++ (e ∷ []))
  kept_entry e h new room =
      record {
        few = k.few;
        room = room;
        none = λ p. absurd (marked_some t.pending (digit_of e) p);
        legal = record {
          entries = λ f m. ⊎_elim (k.legal.entries f)
              (λ o. subst (LegalEntry t.clocks) (sym (Memᴰ.eq_of_singleton o)) h)
              (Memᴰ.append_cases begun m);
          once = once_entry e new;
        };
        known = known_entry e;
      }

  ends_entry : {bytes : List ℕ} {ss : List (List Entry)} {n L g : ℕ} (e : Entry)
      → Ends (entered t e) (begun ++ (e ∷ [])) bytes ss n L g → Ends t begun (entry_bytes e ++ bytes) ss n L g
  ends_entry {bytes} e h =
      record {
        written = sym (before_more begun e bytes) ∙ h.written;
        clocks = h.clocks;
        steps = h.steps;
        guards = omega (arith, h.guards, guards_last begun e);
        some = h.some;
        few = h.few;
        room = h.room;
        entries = h.entries;
      }

  -- a finished step is one of the steps
  pub kept_finish : t.steps < 16 → Kept (stepped t t.guards) []
  kept_finish h = kept_none (stepped t t.guards) (omega arith) k.room

  ends_finish : {bytes : List ℕ} {ss : List (List Entry)} {n L g : ℕ}
      → Ends (stepped t t.guards) [] bytes ss n L g → Ends t begun (4 ∷ bytes) (begun ∷ ss) n L g
  unfolding before steps_bytes guard_count guards_of
  ends_finish {bytes} h =
      record {
        written = sym (before_step begun bytes) ∙ ap (λ rest. step_bytes begun ++ rest) h.written;
        clocks = h.clocks;
        steps = omega (arith, h.steps);
        guards = omega (arith, h.guards);
        some = h.some;
        few = h.few;
        room = h.room;
        entries = λ s m. ⊎_elim (λ e. subst (LegalStep t.clocks) (sym e) k.legal) (h.entries s)
            (Memᴰ.cases_cons m);
      }

  -- the end has no byte after it, and no step begun before it
  ends_end : 1 ≤ t.steps → t.pending ≡ 0 → Ends t begun (5 ∷ []) [] t.clocks t.steps t.guards
  unfolding before steps_bytes guard_count guards_of
  ends_end h p =
      record {
        written = ap (λ es. before es (5 ∷ [])) (k.none p);
        clocks = refl;
        steps = omega arith;
        guards = ap (λ es. t.guards + length (guards_of es)) (k.none p);
        some = h;
        few = k.few;
        room = k.room;
        entries = λ s m. absurd (Memᴰ.not-nil m);
      }

  ends_last : (rs : List Record) → 1 ≤ t.steps → t.pending ≡ 0 → {n L g : ℕ}
      → tail t rs ≡ read.Counted n L g → Ends t begun (5 ∷ bytes_in rs) [] n L g
  unfolding bytes_in
  ends_last [] h p {n} {L} {g} e =
      let a : t.clocks ≡ n = cc in
      let b : t.steps ≡ L = cc in
      let c : t.guards ≡ g = cc in
      subst₃ (Ends t begun (5 ∷ []) []) a b c (ends_end h p)
  ends_last (r ∷ rs) h p e = refused_counted e

module _ (len n L g : ℕ) where
  -- records write down the steps that are read from them
  abbrev Ended : Tally → List Entry → List Record → Type 0
  Ended t begun rs = Ends t begun (bytes_in rs) (steps_in begun rs) n L g

  ends_judged : (t : Tally) (begun : List Entry) (r : Record) (rs : List Record) → Kept t begun → 0 < r.place
      → ((u : Tally) (es : List Entry) → Kept u es → check len u rs ≡ read.Counted n L g → Ended u es rs)
      → {v : Verdict} → Told t r v → onward len t rs v ≡ read.Counted n L g → Ended t begun (r ∷ rs)
  unfolding bytes_in steps_in
  ends_judged t begun r rs k later rest (is_refused f) q = refused_counted q
  ends_judged t begun r rs k later rest (is_head m first shape low high) q = absurd (omega arith)
  ends_judged t begun r rs k later rest (is_entry e _ shape h new room) q =
      subst (λ x. Ended t begun (x ∷ rs)) (sym shape)
      (subst₂ (λ bs ss. Ends t begun bs ss n L g)
      (sym (bytes_entry r.place e rs))
      (sym (steps_entry begun t.clocks r.place e rs h))
      (ends_entry k e (rest (entered t e) (begun ++ (e ∷ [])) (kept_entry k e h new room) q)))
  ends_judged t begun r rs k later rest (is_finish _ shape h) q =
      subst (λ x. Ended t begun (x ∷ rs)) (sym shape)
      (ends_finish k (rest (stepped t t.guards) [] (kept_finish k h) q))
  ends_judged t begun r rs k later rest (is_end _ shape some none) q =
      subst (λ x. Ended t begun (x ∷ rs)) (sym shape) (ends_last k rs some none q)

  -- Records located after the head and accepted write the rest of the steps down.
  pub ends : (rs : List Record) → ((r : Record) → Memᴰ r rs → Located 1 r)
      → (t : Tally) (begun : List Entry) → Kept t begun → check len t rs ≡ read.Counted n L g
      → Ends t begun (bytes_in rs) (steps_in begun rs) n L g
  unfolding check_of
  ends [] f t begun k e = refused_counted e
  ends (r ∷ rs) f t begun k e =
      let h = f r (Memᴰ.head refl) in
      ends_judged t begun r rs k h.from (ends rs (λ x m. f x (Memᴰ.tail m))) (judged t r h k.room)
      (sym (check_judged len t r rs (judge_of t r) refl) ∙ e)
