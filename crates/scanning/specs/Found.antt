-- What is found of a step while a table is read is what its guards and resets say.
use Rattle.std.specs.Prelude.{◌≡◌, true, false, ℕ, zero, suc, ◌+◌, ◌-◌, ◌≤◌, ◌<◌, eqb, length}
use Rattle.std.proofs.Math.Path.{refl, sym, ap, subst₂}
use Rattle.std.proofs.Common.{subst, ◌∙◌, arith, length-append}
use Rattle.std.proofs.Math.Bool.{Bool, cond}
use Rattle.std.proofs.lemmas.Bool.{false≢true}
use mathlib.Core.List.{List, [], ◌∷◌, ◌++◌, Memᴰ}
use Rattle.std.proofs.Math.Decide.{dec_lt}
use Rattle.std.proofs.Math.ListN.{get_or}
use borrow.Author.Tests.{eq-eqb, ne_eqb}
use Rattle.table.specs.declared.Guard.{Guard}
use Rattle.table.specs.declared.Read.TheVariants as read
use Rattle.records.specs.declared.Tally.{Tally}
use Rattle.records.specs.declared.Verdict.{Verdict}
use Rattle.records.specs.Rules.{body_size}
use Rattle.wire.specs.Records.{Bytes, Record, record_at, records_from, records}
use Rattle.records.specs.Checking.{start, check_of}
use Rattle.wire.specs.Reading.{judge_of, tail, check, read_of}
use Rattle.wire.specs.Laws.{onward, read_short, counted_short}
use Rattle.wire.specs.Listing.{Entry, guard, reset, entry, content_of, steps_in, listing, guards_of}
use Rattle.format.specs.Encode.{LegalEntry}
use Rattle.format.specs.Located.{Located, located}
use Rattle.format.specs.Shapes.{
  entry_at,
  head_with,
  finish_at,
  head_tally,
  entered,
  stepped,
  content_entry,
  check_judged,
  steps_entry,
  refused_counted,
}
use Rattle.format.proofs.Ending.{kept_none, ends}
use Rattle.format.specs.Judged.{Told, is_refused, is_head, is_entry, is_finish, is_end, judged}
use Rattle.scans.specs.Scan.{holds, first_failing, aged}
use Rattle.scanning.specs.declared.Progress.{Progress}
use Rattle.scanning.specs.Progress.{meets, started, failed, guard_tested, step_finished, noted, followed, progress_of}
use Rattle.scanning.specs.Noted.{tested_off}
use Rattle.scanning.specs.Follows.{further, follow_one}
use Rattle.scanning.specs.Tested.{meets_holds, guards_guard, guards_reset, fails_still, fails_next, flags_of, Digits, digits_none, digits_guard, digits_reset}

-- The number of a guard of a step, counted from the table's first, when some are before the step; 0 stays.
abbrev pub counted : ℕ → ℕ → ℕ
counted first zero = 0
counted first (suc b) = first + suc b

-- all of some records stand after the head
abbrev pub Later : List Record → Type 0
Later rs = (r : Record) → Memᴰ r rs → Located 1 r

module _ (step : ℕ) (readings : List ℕ) (ticks : ℕ) where
  -- ---- a guard, a step

  -- what a test of a guard leaves as it was, and whether it fails
  module _ (t : Tally) (p : Progress) (g : Guard) where
    tested_same : ((guard_tested readings ticks t p g).on ≡ p.on) × ((guard_tested readings ticks t p g).first ≡ p.first)
    unfolding guard_tested failed
    tested_same = go p.on (meets readings ticks g) (eqb p.failing 0)
      where
        q : Bool → Bool → Bool → Progress
        q a b c =
            cond a (cond b p (cond c (record { on = p.on; first = p.first; failing = t.guards + 1; resets = p.resets }) p)) p

        go : (a b c : Bool) → ((q a b c).on ≡ p.on) × ((q a b c).first ≡ p.first)
        go true true c = (refl, refl)
        go true false true = (refl, refl)
        go true false false = (refl, refl)
        go false b c = (refl, refl)

    tested_failing : p.on ≡ true
        → (guard_tested readings ticks t p g).failing
        ≡ cond (meets readings ticks g) p.failing (cond (eqb p.failing 0) (t.guards + 1) p.failing)
    unfolding guard_tested failed
    tested_failing on = go p.on (meets readings ticks g) (eqb p.failing 0) on
      where
        q : Bool → Bool → Bool → Progress
        q a b c =
            cond a (cond b p (cond c (record { on = p.on; first = p.first; failing = t.guards + 1; resets = p.resets }) p)) p

        go : (a b c : Bool) → a ≡ true → (q a b c).failing ≡ cond b p.failing (cond c (t.guards + 1) p.failing)
        go true true c e = refl
        go true false true e = refl
        go true false false e = refl
        go false b c e = absurd (false≢true e)

  -- an entry makes nothing of it while the step is not under way
  entry_off : (t : Tally) (p : Progress) (e : Entry) → p.on ≡ false → noted step readings ticks t p (entry e) ≡ p
  entry_off t p (guard g) off = sym (tested_off readings ticks t p g off)
  entry_off t p (reset j) off = refl

  -- nor does a finished step, if the next one is not asked for
  finish_off : (t : Tally) (p : Progress) → p.on ≡ false → (t.steps + 2 ≡ step → ⊥) → step_finished step t p ≡ p
  unfolding step_finished
  finish_off t p off other =
      rw (ne_eqb (t.steps + 2) step other)
      (λ i. record {
        on = sym off i;
        first = p.first;
        failing = p.failing;
        resets = cond (off i) t.pending p.resets;
      })

  finish_passed : (t : Tally) (p : Progress) → t.steps + 1 ≡ step → (step_finished step t p).on ≡ false
  unfolding step_finished
  finish_passed t p here = ne_eqb (t.steps + 2) step (λ e. omega arith)

  -- ---- record by record

  -- what an entry's record says
  says : (n : ℕ) (r : Record) (e : Entry) → r ≡ entry_at r.place e → LegalEntry n e → content_of r ≡ entry e
  says n r e shape legal = ap content_of shape ∙ content_entry n r.place e legal

  -- the steps that records finish, by the first of these
  entry_steps : (n : ℕ) (begun : List Entry) (r : Record) (rs : List Record) (x : Entry) → r ≡ entry_at r.place x → LegalEntry n x
      → steps_in begun (r ∷ rs) ≡ steps_in (begun ++ (x ∷ [])) rs
  entry_steps n begun r rs x shape legal = ap (λ y. steps_in begun (y ∷ rs)) shape ∙ steps_entry begun n r.place x rs legal

  finish_steps : (begun : List Entry) (r : Record) (rs : List Record) → r ≡ finish_at r.place
      → steps_in begun (r ∷ rs) ≡ begun ∷ steps_in [] rs
  unfolding steps_in
  finish_steps begun r rs shape = ap (λ y. steps_in begun (y ∷ rs)) shape

  head_steps : (r : Record) (rs : List Record) (m : ℕ) → r ≡ head_with m → steps_in [] (r ∷ rs) ≡ steps_in [] rs
  unfolding steps_in
  head_steps r rs m shape = ap (λ y. steps_in [] (y ∷ rs)) shape

  -- the step has passed
  passed : (rs : List Record) → Later rs → (t : Tally) (p : Progress) → t.guards ≤ 64 → p.on ≡ false → step ≤ t.steps
      → followed step readings ticks t p rs ≡ p
  unfolding followed
  passed [] f t p room off gone = refl
  passed (r ∷ rs) f t p room off gone =
      follow_one step readings ticks t p r rs
      ∙ go (passed rs (λ x m. f x (Memᴰ.tail m))) (judged t r here room)
    where
      here : Located 1 r
      here = f r (Memᴰ.head refl)

      go : ((u : Tally) (q : Progress) → u.guards ≤ 64 → q.on ≡ false → step ≤ u.steps → followed step readings ticks u q rs ≡ q)
          → {v : Verdict} → Told t r v → further step readings ticks t p r rs v ≡ p
      go rest (is_refused _) = refl
      go rest (is_end _ _ _ _) = refl
      go rest (is_head m first _ _ _) = absurd (omega (arith, here.from, first))
      go rest (is_entry e _ shape legal _ more) =
          ap (λ q. followed step readings ticks (entered t e) q rs)
          (ap (noted step readings ticks t p) (says t.clocks r e shape legal) ∙ entry_off t p e off)
          ∙ rest (entered t e) p more off gone
      go rest (is_finish _ shape _) =
          ap (λ q. followed step readings ticks (stepped t t.guards) q rs)
          (ap (λ x. noted step readings ticks t p (content_of x)) shape ∙ finish_off t p off (λ e. omega arith))
          ∙ rest (stepped t t.guards) p room off (omega arith)

  module _ (n : ℕ) (few : n ≤ 6) where
    abbrev old : List ℕ
    old = aged n ticks readings

    -- What was found of a step with some entries: its first guard that fails, and its resets.
    pub record Found (q : Progress) (es : List Entry) : Type 0 where
      pub failing : q.failing ≡ counted q.first (first_failing 0 (guards_of es) old)
      pub resets : Digits (flags_of es) q.resets

    -- The step is under way, and has begun with some entries.
    record UnderWay (t : Tally) (begun : List Entry) (p : Progress) : Type 0 where
      here : t.steps + 1 ≡ step
      clocks : t.clocks ≡ n
      on : p.on ≡ true
      guards : t.guards ≡ p.first + length (guards_of begun)
      failing : p.failing ≡ counted p.first (first_failing 0 (guards_of begun) old)
      resets : Digits (flags_of begun) t.pending

    -- a guard more
    way_failing : (t : Tally) (begun : List Entry) (p : Progress) (g : Guard) → LegalEntry n (guard g) → UnderWay t begun p
        → (guard_tested readings ticks t p g).failing ≡ counted p.first (first_failing 0 (guards_of begun ++ (g ∷ [])) old)
    way_failing t begun p g legal w =
        tested_failing t p g w.on ∙ ap (λ b. cond b p.failing (cond (eqb p.failing 0) (t.guards + 1) p.failing)) (meets_holds n ticks readings g few legal)
        ∙ go (first_failing 0 (guards_of begun) old) refl
      where
        after : Bool → ℕ → ℕ
        after b f = cond b f (cond (eqb f 0) (t.guards + 1) f)

        kept : (b : Bool) (f : ℕ) → eqb f 0 ≡ false → after b f ≡ f
        kept true f e = refl
        kept false f e = rw e

        noted_one : (b : Bool) → after b 0 ≡ counted p.first (cond b 0 (suc (0 + length (guards_of begun))))
        noted_one true = refl
        noted_one false = omega (arith, w.guards)

        go : (f : ℕ) → first_failing 0 (guards_of begun) old ≡ f
            → after (holds g old) p.failing ≡ counted p.first (first_failing 0 (guards_of begun ++ (g ∷ [])) old)
        go zero e =
            ap (after (holds g old)) (w.failing ∙ ap (counted p.first) e)
            ∙ noted_one (holds g old)
            ∙ ap (counted p.first) (sym (fails_next old g 0 (guards_of begun) e))
        go (suc b) e =
            let f : p.failing ≡ p.first + suc b = w.failing ∙ ap (counted p.first) e in
            kept (holds g old) p.failing (ne_eqb p.failing 0 (λ z. omega arith)) ∙ f
            ∙ ap (counted p.first) (sym (fails_still old g 0 (guards_of begun) b e))

    way_entry : (t : Tally) (begun : List Entry) (p : Progress) (e : Entry) → LegalEntry t.clocks e → UnderWay t begun p
        → UnderWay (entered t e) (begun ++ (e ∷ [])) (noted step readings ticks t p (entry e))
    way_entry t begun p (guard g) legal w =
        let same = tested_same t p g in
        record {
          here = w.here;
          clocks = w.clocks;
          on = same.0 ∙ w.on;
          guards = omega (arith, w.guards, same.1, ap length (guards_guard begun g), length-append (guards_of begun) (g ∷ []));
          failing =
              way_failing t begun p g (subst (λ m. LegalEntry m (guard g)) w.clocks legal) w
              ∙ (λ i. counted (sym same.1 i) (first_failing 0 (sym (guards_guard begun g) i) old));
          resets = digits_guard begun g t.pending w.resets;
        }
    way_entry t begun p (reset j) legal w =
        record {
          here = w.here;
          clocks = w.clocks;
          on = w.on;
          guards = omega (arith, w.guards, ap length (guards_reset begun j));
          failing = w.failing ∙ ap (λ gs. counted p.first (first_failing 0 gs old)) (sym (guards_reset begun j));
          resets = digits_reset begun j t.pending (omega (arith, legal.1, w.clocks, few)) w.resets;
        }

    -- it is finished
    way_finish : (t : Tally) (begun : List Entry) (p : Progress) → UnderWay t begun p → Found (step_finished step t p) begun
    unfolding step_finished
    way_finish t begun p w =
        rw (ne_eqb (t.steps + 2) step (λ e. omega (arith, e, w.here)), w.on)
        (record { failing = w.failing; resets = w.resets })

    module _ (len L g : ℕ) (among : step ≤ L) where
      -- no step is left at the end
      at_end_lem : (t : Tally) (rs : List Record) → t.steps < step → tail t rs ≡ read.Counted n L g → ⊥
      at_end_lem t [] h e = let z : t.steps ≡ L = cc in omega arith
      at_end_lem t (r ∷ rs) h e = refused_counted e

      abbrev Accepted : Tally → List Record → Type 0
      Accepted t rs = check len t rs ≡ read.Counted n L g

      under_way : (rs : List Record) → Later rs → (t : Tally) (p : Progress) (begun : List Entry) → t.guards ≤ 64 → UnderWay t begun p
          → Accepted t rs → Found (followed step readings ticks t p rs) (get_or (steps_in begun rs) 0 [])
      unfolding check_of
      under_way [] f t p begun room w e = refused_counted e
      under_way (r ∷ rs) f t p begun room w e =
          rw (follow_one step readings ticks t p r rs)
          (go (under_way rs (λ x m. f x (Memᴰ.tail m))) (judged t r here room)
          (sym (check_judged len t r rs (judge_of t r) refl) ∙ e))
        where
          here : Located 1 r
          here = f r (Memᴰ.head refl)

          go : ((u : Tally) (q : Progress) (es : List Entry) → u.guards ≤ 64 → UnderWay u es q → Accepted u rs
              → Found (followed step readings ticks u q rs) (get_or (steps_in es rs) 0 []))
              → {v : Verdict} → Told t r v → onward len t rs v ≡ read.Counted n L g
              → Found (further step readings ticks t p r rs v) (get_or (steps_in begun (r ∷ rs)) 0 [])
          go rest (is_refused _) q = refused_counted q
          go rest (is_head m first _ _ _) q = absurd (omega (arith, here.from, first))
          go rest (is_end _ _ _ _) q = absurd (at_end_lem t rs (omega (arith, w.here)) q)
          go rest (is_entry x _ shape legal _ more) q =
              subst₂ Found
              (ap (λ c. followed step readings ticks (entered t x) (noted step readings ticks t p c) rs) (sym (says t.clocks r x shape legal)))
              (ap (λ ss. get_or ss 0 []) (sym (entry_steps t.clocks begun r rs x shape legal)))
              (rest (entered t x) (noted step readings ticks t p (entry x)) (begun ++ (x ∷ [])) more (way_entry t begun p x legal w) q)
          go rest (is_finish _ shape _) q =
              subst₂ Found
              (sym (ap (λ y. followed step readings ticks (stepped t t.guards) (noted step readings ticks t p (content_of y)) rs) shape ∙ done))
              (ap (λ ss. get_or ss 0 []) (sym (finish_steps begun r rs shape)))
              (way_finish t begun p w)
            where
              done : followed step readings ticks (stepped t t.guards) (step_finished step t p) rs ≡ step_finished step t p
              done =
                  passed rs (λ x m. f x (Memᴰ.tail m)) (stepped t t.guards) (step_finished step t p) room
                  (finish_passed t p w.here) (omega (arith, w.here))

      -- the next step is the one asked for
      way_begin : (t : Tally) (p : Progress) → t.clocks ≡ n → p.failing ≡ 0 → t.steps + 2 ≡ step
          → UnderWay (stepped t t.guards) [] (step_finished step t p)
      unfolding step_finished guards_of first_failing
      way_begin t p clocks none next =
          let asked = eq-eqb (t.steps + 2) step next in
          record {
            here = omega arith;
            clocks = clocks;
            on = asked;
            guards = rw asked (omega arith);
            failing = none;
            resets = digits_none;
          }

      -- the step is to come
      waiting : (rs : List Record) → Later rs → (t : Tally) (p : Progress) (begun : List Entry) (i : ℕ) → t.guards ≤ 64 → t.clocks ≡ n
          → p.on ≡ false → p.failing ≡ 0 → t.steps + 2 + i ≡ step
          → Accepted t rs → Found (followed step readings ticks t p rs) (get_or (steps_in begun rs) (suc i) [])
      unfolding check_of
      waiting [] f t p begun i room clocks off none ahead e = refused_counted e
      waiting (r ∷ rs) f t p begun i room clocks off none ahead e =
          rw (follow_one step readings ticks t p r rs)
          (go i ahead (waiting rs (λ x m. f x (Memᴰ.tail m))) (judged t r here room)
          (sym (check_judged len t r rs (judge_of t r) refl) ∙ e))
        where
          here : Located 1 r
          here = f r (Memᴰ.head refl)

          go : (i : ℕ) → t.steps + 2 + i ≡ step
              → ((u : Tally) (q : Progress) (es : List Entry) (j : ℕ) → u.guards ≤ 64 → u.clocks ≡ n → q.on ≡ false → q.failing ≡ 0
              → u.steps + 2 + j ≡ step → Accepted u rs → Found (followed step readings ticks u q rs) (get_or (steps_in es rs) (suc j) []))
              → {v : Verdict} → Told t r v → onward len t rs v ≡ read.Counted n L g
              → Found (further step readings ticks t p r rs v) (get_or (steps_in begun (r ∷ rs)) (suc i) [])
          go i ahead rest (is_refused _) q = refused_counted q
          go i ahead rest (is_head m first _ _ _) q = absurd (omega (arith, here.from, first))
          go i ahead rest (is_end _ _ _ _) q = absurd (at_end_lem t rs (omega arith) q)
          go i ahead rest (is_entry x _ shape legal _ more) q =
              subst₂ Found
              (ap (λ c. followed step readings ticks (entered t x) c rs)
              (sym (ap (noted step readings ticks t p) (says t.clocks r x shape legal) ∙ entry_off t p x off)))
              (ap (λ ss. get_or ss (suc i) []) (sym (entry_steps t.clocks begun r rs x shape legal)))
              (rest (entered t x) p (begun ++ (x ∷ [])) i more clocks off none ahead q)
          go zero ahead rest (is_finish _ shape _) q =
              subst₂ Found
              (ap (λ y. followed step readings ticks (stepped t t.guards) (noted step readings ticks t p (content_of y)) rs) (sym shape))
              (ap (λ ss. get_or ss 1 []) (sym (finish_steps begun r rs shape)))
              (under_way rs (λ x m. f x (Memᴰ.tail m)) (stepped t t.guards) (step_finished step t p) [] room
              (way_begin t p clocks none (omega arith)) q)
          go (suc j) ahead rest (is_finish _ shape _) q =
              subst₂ Found
              (ap (λ c. followed step readings ticks (stepped t t.guards) c rs)
              (sym (ap (λ y. noted step readings ticks t p (content_of y)) shape ∙ finish_off t p off (λ e. omega arith))))
              (ap (λ ss. get_or ss (suc (suc j)) []) (sym (finish_steps begun r rs shape)))
              (rest (stepped t t.guards) p [] j room clocks off none (omega arith) q)

      -- the head comes first
      from_head : (r : Record) (rs : List Record) → r.place ≡ 0 → Later rs → 1 ≤ step → {v : Verdict} → Told start r v
          → onward len start rs v ≡ read.Counted n L g
          → Found (further step readings ticks start (started step) r rs v) (get_or (steps_in [] (r ∷ rs)) (step - 1) [])
      unfolding guards_of first_failing
      from_head r rs first f low (is_refused _) q = refused_counted q
      from_head r rs first f low (is_entry _ later _ _ _ _) q = absurd (omega arith)
      from_head r rs first f low (is_finish later _ _) q = absurd (omega arith)
      from_head r rs first f low (is_end later _ _ _) q = absurd (omega arith)
      from_head r rs first f low (is_head m _ shape _ _) q =
          subst₂ Found
          (ap (λ y. followed step readings ticks (head_tally m) (noted step readings ticks start (started step) (content_of y)) rs) (sym shape))
          (ap (λ ss. get_or ss (step - 1) []) (sym (head_steps r rs m shape)))
          (go (dec_lt 1 step))
        where
          clocks : m ≡ n
          clocks = sym (ends len n L g rs f (head_tally m) [] (kept_none (head_tally m) (omega arith) (omega arith)) q).clocks

          now : step ≡ 1 → UnderWay (head_tally m) [] (started step)
          now e =
              record {
                here = omega arith;
                clocks = clocks;
                on = eq-eqb step 1 e;
                guards = refl;
                failing = refl;
                resets = digits_none;
              }

          go : Dec (1 < step) → Found (followed step readings ticks (head_tally m) (started step) rs) (get_or (steps_in [] rs) (step - 1) [])
          go (yes l) =
              let same : suc (step - 2) ≡ step - 1 = omega arith in
              subst (λ i. Found (followed step readings ticks (head_tally m) (started step) rs) (get_or (steps_in [] rs) i [])) same
              (waiting rs f (head_tally m) (started step) [] (step - 2) (omega arith) clocks (ne_eqb step 1 (λ e. omega arith)) refl (omega arith) q)
          go (no l) =
              let same : 0 ≡ step - 1 = omega arith in
              subst (λ i. Found (followed step readings ticks (head_tally m) (started step) rs) (get_or (steps_in [] rs) i [])) same
              (under_way rs f (head_tally m) (started step) [] (omega arith) (now (omega arith)) q)

-- What is found of a step of accepted bytes.
pub found : (bytes : List ℕ) → Bytes bytes → (n L g : ℕ) → read_of bytes ≡ read.Counted n L g → (few : n ≤ 6)
    → (step : ℕ) (readings : List ℕ) (ticks : ℕ) → 1 ≤ step → step ≤ L
    → Found step readings ticks n few (progress_of step readings ticks bytes) (get_or (listing bytes).steps (step - 1) [])
unfolding progress_of listing check_of records_from
found bytes small n L g e few step readings ticks low among =
    go bytes small (sym (read_short bytes (counted_short bytes n L g e)) ∙ e)
  where
    go : (bs : List ℕ) → Bytes bs → check (length bs) start (records bs) ≡ read.Counted n L g
        → Found step readings ticks n few (followed step readings ticks start (started step) (records bs))
        (get_or (steps_in [] (records bs)) (step - 1) [])
    go [] h e = refused_counted e
    go (k ∷ rest) h e =
        let r = record_at 0 k rest in
        let rs = records_from (body_size k) 1 rest in
        rw (follow_one step readings ticks start (started step) r rs)
        (from_head step readings ticks n few (length (k ∷ rest)) L g among r rs refl (located (body_size k) 1 rest (λ i. h (suc i))) low
        (judged start r (located 0 0 (k ∷ rest) h r (Memᴰ.head refl)) (omega arith))
        (sym (check_judged (length (k ∷ rest)) start r rs (judge_of start r) refl) ∙ e))
