-- The records of a step, one after the other, up to its end.
use Rattle.std.specs.Prelude.{◌≡◌, ◌≢◌, Bool, true, false, ◌||◌, ℕ, ◌+◌, ◌-◌, ◌≤◌, ◌<◌, eqb, leb, length, get_or, take, drop}
use Rattle.std.proofs.Math.Path.{refl}
use Rattle.std.proofs.Common.{sym, ap, subst, ◌∙◌, arith, length-drop}
use Rattle.std.proofs.Math.Bool.{cond, and-false}
use mathlib.Core.List.{List, [], ◌∷◌}
use Rattle.std.proofs.Math.Decide.{ℕ_discrete}
use borrow.Author.Tests.{ne_eqb, le-leb}
use Rattle.table.specs.declared.Fault.{Fault}
use Rattle.table.specs.declared.Fault.TheVariants as fault
use Rattle.table.specs.declared.Refusal.{Refusal}
use Rattle.table.specs.declared.Read.TheVariants as read
use Rattle.records.specs.declared.Tally.{Tally}
use Rattle.records.specs.declared.Verdict.{Verdict}
use Rattle.records.specs.declared.Verdict.TheVariants.{Refused, Next, Last}
use Rattle.records.specs.Rules.{within, ended}
use Rattle.records.specs.Marks.{marked_some}
use Rattle.wire.specs.Records.{Bytes, Record, record_at, records_at}
use Rattle.wire.specs.Reading.{byte, whole_of, judge_of}
use Rattle.wire.specs.Listing.{guard, reset}
use Rattle.format.specs.Located.{located_here}
use Rattle.format.specs.Shapes.{digit_of, false_true}
use Rattle.format.specs.Judged.{Told, is_head, is_entry, is_finish, is_end, within_true, judged}
use Rattle.stretches.specs.declared.Open.{Open}
use Rattle.stretches.specs.declared.Part.{Part}
use Rattle.stretches.specs.declared.Part.TheVariants as part
use Rattle.stretches.specs.Reading.{refused, lift, or_else, may_open, opened, closed, none_open, judge_in, check_in}
use Rattle.format.specs.Reach.{record_of, after}
use Rattle.stretches.specs.Laws.{onward_in, check_on, check_out, plain_said}
use Rattle.stretches.specs.Parts.{stands_between, unfinished_of, same, Reads, Within, StepAt}

-- ---- one record of a step

pub own_judged : (t : Tally) (stack : List Open) (r : Record) → stands_between r.kind ≡ false
    → judge_in t stack r ≡ lift stack (judge_of t r)
own_judged t stack r e =
    plain_said t stack r (right (eqb r.kind 5) (within 7 r.kind 8) e) (λ k. false_true (sym e ∙ ap stands_between k))
  where
    right : (a b : Bool) → (a || b) ≡ false → b ≡ false
    right true b e = false_true (sym e)
    right false b e = e

-- the end, and the open and the close of a stretch, stand between steps
module _ (t : Tally) (stack : List Open) (at : ℕ) (rest : List ℕ) (later : 0 < at) (begun : t.pending ≢ 0) where
  abbrev left : ℕ
  left = length rest

  abbrev why : ℕ → Refusal
  why k = record { fault = unfinished_of k left (length stack); place = at }

  place_later : eqb at 0 ≡ false
  place_later = ne_eqb at 0 (λ z. omega arith)

  end_astray : (stack : List Open) → or_else (none_open stack) fault.Stretch at (lift stack (judge_of t (record_at at 5 rest)))
      ≡ refused (record { fault = cond (eqb (length stack) 0) fault.Steps fault.Stretch; place = at })
  unfolding judge_of whole_of ended
  end_astray [] = simp (place_later, ne_eqb t.pending 0 begun, and-false (leb 1 t.steps))
  end_astray (o ∷ stack) = rw (ne_eqb (length (o ∷ stack)) 0 (λ z. omega arith))

  close_astray : (stack : List Open) → closed t stack at ≡ refused (record { fault = fault.Stretch; place = at })
  unfolding closed
  close_astray [] = refl
  close_astray (o ∷ stack) = simp (ne_eqb t.pending 0 begun)

  open_astray : or_else (leb 1 (length (take 1 rest))) fault.Cut at (opened t stack at (byte (record_at at 7 rest) 0))
      ≡ refused (record { fault = cond (leb 1 left) fault.Stretch fault.Cut; place = at })
  unfolding opened
  open_astray =
      simp (ne_eqb t.pending 0 begun, and-false (may_open (byte (record_at at 7 rest) 0) (length stack)))
      (go rest)
    where
      go : (l : List ℕ) → or_else (leb 1 (length (take 1 l))) fault.Cut at (refused (record { fault = fault.Stretch; place = at }))
          ≡ refused (record { fault = cond (leb 1 (length l)) fault.Stretch fault.Cut; place = at })
      go [] = refl
      go (x ∷ l) = rw (le-leb 1 (length (x ∷ l)) (omega arith))

  pub astray_judged : (k : ℕ) → stands_between k ≡ true → judge_in t stack (record_at at k rest) ≡ refused (why k)
  astray_judged k a = go (ℕ_discrete k 5) (ℕ_discrete k 7) (ℕ_discrete k 8)
    where
      at_kind : (n : ℕ) → k ≡ n → judge_in t stack (record_at at n rest) ≡ refused (why n)
          → judge_in t stack (record_at at k rest) ≡ refused (why k)
      at_kind n e h = subst (λ m. judge_in t stack (record_at at m rest) ≡ refused (why m)) (sym e) h

      five : judge_in t stack (record_at at 5 rest) ≡ refused (why 5)
      five = unfold judge_in unfinished_of in end_astray stack

      seven : judge_in t stack (record_at at 7 rest) ≡ refused (why 7)
      seven = unfold judge_in unfinished_of in simp place_later open_astray

      eight : judge_in t stack (record_at at 8 rest) ≡ refused (why 8)
      eight = unfold judge_in unfinished_of in simp (place_later, le-leb 0 left (omega arith)) (close_astray stack)

      none : (k ≡ 5 → ⊥) → (k ≡ 7 → ⊥) → (k ≡ 8 → ⊥) → ⊥
      none n₅ n₇ n₈ =
          let w = within_true 7 k 8 (subst (λ b. (b || within 7 k 8) ≡ true) (ne_eqb k 5 n₅) a) in omega (arith, w.0, w.1)

      go : Dec (k ≡ 5) → Dec (k ≡ 7) → Dec (k ≡ 8) → judge_in t stack (record_at at k rest) ≡ refused (why k)
      go (yes e) d₇ d₈ = at_kind 5 e five
      go (no n₅) (yes e) d₈ = at_kind 7 e seven
      go (no n₅) (no n₇) (yes e) = at_kind 8 e eight
      go (no n₅) (no n₇) (no n₈) = absurd (none n₅ n₇ n₈)

-- ---- the records of a step

-- up to a place: the answer of the records from the step's place on is that from there
pub record UpTo (bytes : List ℕ) (from : ℕ) (tally : Tally) (depth at : ℕ) (t : Tally) : Type 0 where
  pub limits : Within bytes at t
  pub own : t.pending ≡ 0 → stands_between (get_or bytes at 0) ≡ false
  pub past : from ≤ at
  pub steps : tally.steps ≤ t.steps
  pub guards : tally.guards ≤ t.guards
  pub due : (stack : List Open) → length stack ≡ depth
      → check_in (length bytes) tally stack (records_at bytes from) ≡ check_in (length bytes) t stack (records_at bytes at)

pub up_to_begin : (bytes : List ℕ) (from : ℕ) (tally : Tally) (depth : ℕ) → StepAt bytes from tally → UpTo bytes from tally depth from tally
up_to_begin bytes from tally depth s =
    record { limits = s.limits; own = s.own; past = omega arith; steps = omega arith; guards = omega arith; due = λ stack e. refl }

-- what a record that is taken in a step adds
pub record Taken (t u : Tally) : Type 0 where
  pub steps : t.steps ≡ u.steps
  pub guards : t.guards ≤ u.guards
  pub room : u.guards ≤ 64
  pub begun : u.pending ≢ 0

pub record Done (t u : Tally) : Type 0 where
  pub steps : t.steps + 1 ≡ u.steps
  pub few : u.steps ≤ 16
  pub guards : t.guards ≡ u.guards
  pub none : u.pending ≡ 0

module _ (bytes : List ℕ) (from : ℕ) (tally : Tally) (depth at : ℕ) (t : Tally) (h : UpTo bytes from tally depth at t) where
  abbrev Ends : Part → Type 0
  Ends r = Reads bytes tally from depth same r

  -- the bytes run out
  pub ends_out : length bytes ≤ at → Ends (part.Refused (record { fault = fault.Cut; place = length bytes }))
  ends_out l = record { goes_on = λ stack e. h.due stack e ∙ check_out (length bytes) t stack bytes at l; grown = tt }

  module _ (here : at < length bytes) where
    left_is : length (drop (at + 1) bytes) ≡ length bytes - at - 1
    left_is = omega (arith, length-drop (at + 1) bytes)

    -- a record that stands between steps
    pub ends_astray : stands_between (get_or bytes at 0) ≡ true
        → Ends (part.Refused (record { fault = unfinished_of (get_or bytes at 0) (length bytes - at - 1) depth; place = at }))
    ends_astray a =
        record {
          goes_on = λ stack e. h.due stack e
              ∙ check_on (length bytes) t stack bytes at here _
              (astray_judged t stack at (drop (at + 1) bytes) h.limits.later begun (get_or bytes at 0) a)
              ∙ ap₂' stack e;
          grown = tt;
        }
      where
        begun : t.pending ≢ 0
        begun p = false_true (sym (h.own p) ∙ a)

        ap₂' : (stack : List Open) → length stack ≡ depth
            → read.Refused (record { fault = unfinished_of (get_or bytes at 0) (length (drop (at + 1) bytes)) (length stack); place = at })
            ≡ read.Refused (record { fault = unfinished_of (get_or bytes at 0) (length bytes - at - 1) depth; place = at })
        ap₂' stack e = λ i. read.Refused (record { fault = unfinished_of (get_or bytes at 0) (left_is i) (e i); place = at })

    module _ (small : Bytes bytes) (own : stands_between (get_or bytes at 0) ≡ false) (v : Verdict) (is : v ≡ judge_of t (record_of bytes at)) where
      told : Told t (record_of bytes at) v
      told =
          subst (Told t (record_of bytes at)) (sym is)
          (judged t (record_of bytes at) (located_here bytes at small) h.limits.room)

      -- the answer goes on from the verdict
      goes : (stack : List Open) → length stack ≡ depth
          → check_in (length bytes) tally stack (records_at bytes from)
          ≡ onward_in (length bytes) t (records_at bytes (after bytes at)) (lift stack v)
      goes stack e =
          h.due stack e
          ∙ check_on (length bytes) t stack bytes at here (lift stack v)
          (own_judged t stack (record_of bytes at) own ∙ ap (lift stack) (sym is))

      pub ends_refused : (f : Refusal) → v ≡ Refused f → Ends (part.Refused f)
      ends_refused f e =
          record {
            goes_on = λ stack d. goes stack d
                ∙ ap (λ x. onward_in (length bytes) t (records_at bytes (after bytes at)) (lift stack x)) e;
            grown = tt;
          }

      -- the end of the table does not come here
      pub no_last : v ≡ Last → ⊥
      no_last e = go (subst (Told t (record_of bytes at)) e told)
        where
          go : Told t (record_of bytes at) Last → ⊥
          go (is_end _ shape _ _) =
              let five : get_or bytes at 0 ≡ 5 = ap (λ r. r.kind) shape in
              false_true (sym own ∙ ap stands_between five)

      taken_by : (u : Tally) → Told t (record_of bytes at) (Next u) → (get_or bytes at 0 ≡ 4 → ⊥) → Taken t u
      taken_by u (is_head n first _ _ _) no4 = absurd (omega (arith, h.limits.later, first))
      taken_by u (is_entry e _ _ _ _ room) no4 =
          record { steps = refl; guards = omega arith; room = room; begun = marked_some t.pending (digit_of e) }
      taken_by u (is_finish _ shape _) no4 = absurd (no4 (ap (λ r. r.kind) shape))

      done_by : (u : Tally) → Told t (record_of bytes at) (Next u) → get_or bytes at 0 ≡ 4 → Done t u
      done_by u (is_head n first _ _ _) k4 = absurd (omega (arith, h.limits.later, first))
      done_by u (is_entry (guard g) _ shape _ _ room) k4 = absurd (omega (arith, ap (λ r. r.kind) shape))
      done_by u (is_entry (reset j) _ shape _ _ room) k4 = absurd (omega (arith, ap (λ r. r.kind) shape))
      done_by u (is_finish _ shape few) k4 = record { steps = refl; few = omega arith; guards = refl; none = refl }

      module _ (u : Tally) (e : v ≡ Next u) where
        -- a record of the step is taken
        pub up_to_next : (get_or bytes at 0 ≡ 4 → ⊥) → UpTo bytes from tally depth (after bytes at) u
        up_to_next no4 =
            let k = taken_by u (subst (Told t (record_of bytes at)) e told) no4 in
            record {
              limits = record {
                later = omega arith;
                short = h.limits.short;
                few = omega (arith, h.limits.few, k.steps);
                room = k.room;
              };
              own = λ p. absurd (k.begun p);
              past = omega (arith, h.past);
              steps = omega (arith, h.steps, k.steps);
              guards = omega (arith, h.guards, k.guards);
              due = λ stack d. goes stack d
                  ∙ ap (λ x. onward_in (length bytes) t (records_at bytes (after bytes at)) (lift stack x)) e;
            }

        -- the step is finished
        pub ends_done : get_or bytes at 0 ≡ 4 → Ends (part.Read u (after bytes at))
        ends_done k4 =
            let k = done_by u (subst (Told t (record_of bytes at)) e told) k4 in
            record {
              goes_on = λ stack d. goes stack d
                  ∙ ap (λ x. onward_in (length bytes) t (records_at bytes (after bytes at)) (lift stack x)) e;
              grown = record {
                past = omega (arith, h.past);
                steps = omega (arith, h.steps, k.steps);
                guards = omega (arith, h.guards, k.guards);
                few = k.few;
                room = omega (arith, h.limits.room, k.guards);
                none = k.none;
              };
            }

    -- the same by what a program has of them
    pub stops_astray : (k : ℕ) → k ≡ get_or bytes at 0 → stands_between k ≡ true → (why : Fault) → why ≡ unfinished_of k (length bytes - at - 1) depth
        → (r : Part) → r ≡ part.Refused (record { fault = why; place = at }) → Ends r
    stops_astray k e a why w r is =
        subst Ends (sym (is ∙ (λ i. part.Refused (record { fault = (w ∙ ap (λ n. unfinished_of n (length bytes - at - 1) depth) e) i; place = at }))))
        (ends_astray (ap stands_between (sym e) ∙ a))
