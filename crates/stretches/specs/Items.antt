-- Reading an item and reading a stretch, from what they call.
use Rattle.std.specs.Prelude.{◌≡◌, ◌≢◌, Bool, ◌&&◌, ℕ, ◌+◌, ◌-◌, ◌≤◌, ◌<◌, eqb, ltb, leb, length, get_or, take, drop}
use Rattle.std.proofs.Math.Path.{refl, ap}
use Rattle.std.proofs.Common.{sym, ◌∙◌, arith, length-take, length-drop}
use Rattle.std.proofs.Math.Bool.{true, false}
use mathlib.Core.List.{List, ◌∷◌}
use borrow.Author.Tests.{eq-eqb, ne_eqb, le-leb, lt-leb, leb-true}
use Rattle.table.specs.declared.Fault.TheVariants as fault
use Rattle.table.specs.declared.Refusal.{Refusal}
use Rattle.records.specs.declared.Tally.{Tally}
use Rattle.records.specs.Rules.{body_size, within}
use Rattle.records.specs.Tests.{both}
use Rattle.wire.specs.Records.{record_at, records_at}
use Rattle.wire.specs.Reading.{byte}
use Rattle.wire.specs.Laws.{byte_is}
use Rattle.stretches.specs.declared.Open.{Open}
use Rattle.stretches.specs.declared.Part.{Part}
use Rattle.stretches.specs.declared.Part.TheVariants as part
use Rattle.stretches.specs.Reading.{refused, next, or_else, may_open, opening, opened, closed, repeated, at_close, judge_in, check_in}
use Rattle.format.specs.Reach.{record_of, after}
use Rattle.stretches.specs.Tree.{at_least}
use Rattle.stretches.specs.Laws.{onward_in, check_on, check_out}
use Rattle.stretches.specs.Parts.{stands_between, part_else, closed_of, resumed, Past, Grown, same, Reads, Begins, StepAt, ItemAt, InStretch}

-- ---- an item
module _ (bytes : List ℕ) (at : ℕ) (t : Tally) (h : ItemAt bytes at t) where
  later_place : eqb at 0 ≡ false
  later_place = let l = h.begins.limits.later in ne_eqb at 0 (λ z. omega arith)

  -- a step
  pub item_step : get_or bytes at 0 ≢ 7 → StepAt bytes at t
  item_step no7 =
      record {
        limits = h.begins.limits;
        own = λ _. own (get_or bytes at 0) h.no_end no7 h.no_close;
      }
    where
      own : (k : ℕ) → k ≢ 5 → k ≢ 7 → k ≢ 8 → stands_between k ≡ false
      own k n₅ n₇ n₈ = rw (ne_eqb k 5 n₅) (go (leb 7 k) (leb k 8) (leb-true 7 k) (leb-true k 8))
        where
          go : (a b : Bool) → (a ≡ true → 7 ≤ k) → (b ≡ true → k ≤ 8) → (a && b) ≡ false
          go false b f g = refl
          go true false f g = refl
          go true true f g = let x = f refl in let y = g refl in absurd (omega arith)

  module _ (k7 : get_or bytes at 0 ≡ 7) where
    rest : List ℕ
    rest = drop (at + 1) bytes

    judged : (stack : List Open) → judge_in t stack (record_of bytes at)
        ≡ or_else (leb 1 (length (take 1 (drop (at + 1) bytes)))) fault.Cut at (opened t stack at (byte (record_at at 7 (drop (at + 1) bytes)) 0))
    judged stack = ap (λ k. judge_in t stack (record_at at k (drop (at + 1) bytes))) k7 ∙ seven
      where
        seven : judge_in t stack (record_at at 7 (drop (at + 1) bytes))
            ≡ or_else (leb 1 (length (take 1 (drop (at + 1) bytes)))) fault.Cut at (opened t stack at (byte (record_at at 7 (drop (at + 1) bytes)) 0))
        seven = unfold judge_in in rw later_place

    -- an open without its byte
    pub item_cut : (depth : ℕ) → length bytes ≤ at + 1 → Reads bytes t at depth same (part.Refused (record { fault = fault.Cut; place = at }))
    item_cut depth l =
        record {
          goes_on = λ stack e. check_on (length bytes) t stack bytes at h.here (refused (record { fault = fault.Cut; place = at })) (judged stack ∙ rw (lt-leb 1 (length (take 1 (drop (at + 1) bytes))) short));
          grown = tt;
        }
      where
        short : length (take 1 (drop (at + 1) bytes)) < 1
        short = omega (arith, length-take 1 (drop (at + 1) bytes), length-drop (at + 1) bytes)

    module _ (whole : at + 1 < length bytes) where
      times : ℕ
      times = get_or bytes (at + 1) 0

      says : (stack : List Open) → judge_in t stack (record_of bytes at) ≡ opened t stack at (get_or bytes (at + 1) 0)
      says stack =
          judged stack ∙ rw (le-leb 1 (length (take 1 (drop (at + 1) bytes))) some)
          (ap (opened t stack at) (sym (byte_is bytes at 7 0 (omega arith) (at + 1) (omega arith))))
        where
          some : 1 ≤ length (take 1 (drop (at + 1) bytes))
          some = omega (arith, length-take 1 (drop (at + 1) bytes), length-drop (at + 1) bytes)

      -- a number or a depth that is not allowed
      pub item_shut : (depth : ℕ) → may_open (get_or bytes (at + 1) 0) depth ≡ false
          → Reads bytes t at depth same (part.Refused (record { fault = fault.Stretch; place = at }))
      item_shut depth not =
          record {
            goes_on = λ stack e. check_on (length bytes) t stack bytes at h.here _ (says stack ∙ shut stack e);
            grown = tt;
          }
        where
          shut : (stack : List Open) → length stack ≡ depth
              → opened t stack at (get_or bytes (at + 1) 0) ≡ refused (record { fault = fault.Stretch; place = at })
          shut stack e = unfold opened in rw (ap (may_open (get_or bytes (at + 1) 0)) e ∙ not)

      module _ (depth : ℕ) (can : may_open (get_or bytes (at + 1) 0) depth ≡ true) where
        abbrev o : Open
        o = opening t (get_or bytes (at + 1) 0)

        pub opened_begins : Begins bytes (at + 2) t
        opened_begins =
            let l = h.begins.limits in
            record { limits = record { later = omega arith; short = l.short; few = l.few; room = l.room }; none = h.begins.none }

        pub opened_in : InStretch t o
        opened_in =
            let l = h.begins.limits in
            let w = both (within 2 (get_or bytes (at + 1) 0) 16) (ltb depth 4) can in
            let x = both (leb 2 (get_or bytes (at + 1) 0)) (leb (get_or bytes (at + 1) 0) 16) w.0 in
            record {
              some = omega (arith, leb-true 2 (get_or bytes (at + 1) 0) x.0);
              times = leb-true (get_or bytes (at + 1) 0) 16 x.1;
              after = omega arith;
              more = omega arith;
              few = l.few;
              room = l.room;
            }

        -- a stretch is opened
        pub item_opened : (r : Part) → Reads bytes t (at + 2) (depth + 1) (λ stack. o ∷ stack) r → Reads bytes t at depth same r
        item_opened r inner =
            record {
              goes_on = λ stack e. check_on (length bytes) t stack bytes at h.here _ (says stack ∙ open_said stack e)
                  ∙ ap (λ n. check_in (length bytes) t (o ∷ stack) (records_at bytes n)) next_place
                  ∙ inner.goes_on stack (omega (arith, e));
              grown = onwards r inner.grown;
            }
          where
            open_said : (stack : List Open) → length stack ≡ depth
                → opened t stack at (get_or bytes (at + 1) 0) ≡ next t (o ∷ stack)
            open_said stack e = unfold opened in rw (ap (may_open (get_or bytes (at + 1) 0)) e ∙ can, eq-eqb t.pending 0 h.begins.none)

            next_place : after bytes at ≡ at + 2
            next_place = ap (λ k. at + 1 + body_size k) k7 ∙ omega arith

            onwards : (r : Part) → Grown t (at + 2) r → Grown t at r
            onwards (part.Refused f) g = tt
            onwards (part.Read u n) g =
                record { past = omega (arith, g.past); steps = g.steps; guards = g.guards; few = g.few; room = g.room; none = g.none }

-- ---- a stretch
module _ (bytes : List ℕ) (at : ℕ) (t : Tally) (depth : ℕ) (o : Open) (b : Begins bytes at t) (i : InStretch t o) where
  abbrev Stretch : Tally → ℕ → Part → Type 0
  Stretch u from r = Reads bytes u from depth (λ stack. o ∷ stack) r

  pub stretch_out : length bytes ≤ at → Stretch t at (part.Refused (record { fault = fault.Cut; place = length bytes }))
  stretch_out l = record { goes_on = λ stack e. check_out (length bytes) t (o ∷ stack) bytes at l; grown = tt }

  module _ (here : at < length bytes) where
    place_later : eqb at 0 ≡ false
    place_later = let l = b.limits.later in ne_eqb at 0 (λ z. omega arith)

    -- the end of the table comes inside it
    pub stretch_end : get_or bytes at 0 ≡ 5 → Stretch t at (part.Refused (record { fault = fault.Stretch; place = at }))
    stretch_end k5 =
        record {
          goes_on = λ stack e. check_on (length bytes) t (o ∷ stack) bytes at here _
              (ap (λ k. judge_in t (o ∷ stack) (record_at at k (drop (at + 1) bytes))) k5 ∙ five stack);
          grown = tt;
        }
      where
        five : (stack : List Open) → judge_in t (o ∷ stack) (record_at at 5 (drop (at + 1) bytes))
            ≡ refused (record { fault = fault.Stretch; place = at })
        five stack = unfold judge_in in refl

    -- its close
    pub stretch_closed : get_or bytes at 0 ≡ 8 → Stretch t at (closed_of t at o)
    unfolding closed_of
    stretch_closed k8 =
        record {
          goes_on = λ stack e.
              check_on (length bytes) t (o ∷ stack) bytes at here _
              (ap (λ k. judge_in t (o ∷ stack) (record_at at k (drop (at + 1) bytes))) k8 ∙ eight stack)
              ∙ ap (λ n. onward_in (length bytes) t (records_at bytes n) (closed t (o ∷ stack) at)) next_place
              ∙ said stack;
          grown = grows (ltb o.steps t.steps) (leb (at_close t o).steps 16) (leb (at_close t o).guards 64) (leb-true _ 16) (leb-true _ 64);
        }
      where
        eight : (stack : List Open) → judge_in t (o ∷ stack) (record_at at 8 (drop (at + 1) bytes)) ≡ closed t (o ∷ stack) at
        eight stack = unfold judge_in in rw place_later

        next_place : after bytes at ≡ at + 1
        next_place = ap (λ k. at + 1 + body_size k) k8 ∙ omega arith

        said : (stack : List Open) → onward_in (length bytes) t (records_at bytes (at + 1)) (closed t (o ∷ stack) at)
            ≡ resumed bytes stack (closed_of t at o)
        said stack =
            unfold closed in rw (eq-eqb t.pending 0 b.none)
            (go (ltb o.steps t.steps) (leb (at_close t o).steps 16) (leb (at_close t o).guards 64))
          where
            go : (x y z : Bool)
                → onward_in (length bytes) t (records_at bytes (at + 1))
                (or_else x fault.Stretch at (or_else y fault.Steps at (or_else z fault.Bounds at (next (at_close t o) stack))))
                ≡ resumed bytes stack
                (part_else x fault.Stretch at (part_else y fault.Steps at (part_else z fault.Bounds at (part.Read (at_close t o) (at + 1)))))
            go false y z = refl
            go true false z = refl
            go true true false = refl
            go true true true = refl

        grown_by : (times before now : ℕ) → 1 ≤ times → before ≤ now → now ≤ repeated times before now
        grown_by times before now s l =
            omega (arith, at_least times (now - before) s)

        grows : (x y z : Bool) → (y ≡ true → (at_close t o).steps ≤ 16) → (z ≡ true → (at_close t o).guards ≤ 64)
            → Grown t at (part_else x fault.Stretch at (part_else y fault.Steps at (part_else z fault.Bounds at (part.Read (at_close t o) (at + 1)))))
        grows false y z f g = tt
        grows true false z f g = tt
        grows true true false f g = tt
        grows true true true f g =
            record {
              past = omega arith;
              steps = grown_by o.times o.steps t.steps i.some i.after;
              guards = grown_by o.times o.guards t.guards i.some i.more;
              few = f refl;
              room = g refl;
              none = refl;
            }

    -- an item of it
    pub stretch_item : get_or bytes at 0 ≢ 8 → get_or bytes at 0 ≢ 5 → ItemAt bytes at t
    stretch_item no8 no5 = record { begins = b; here = here; no_end = no5; no_close = no8 }

    pub stretch_refused : (f : Refusal) → Reads bytes t at depth same (part.Refused f) → Stretch t at (part.Refused f)
    stretch_refused f r = record { goes_on = λ stack e. r.goes_on (o ∷ stack) e; grown = tt }

    module _ (u : Tally) (n : ℕ) (r : Reads bytes t at depth same (part.Read u n)) where
      pub item_past : Past t at u n
      item_past = r.grown

      pub item_begins : Begins bytes n u
      item_begins =
          let g = item_past in
          let l = b.limits in
          record { limits = record { later = omega (arith, g.past); short = l.short; few = g.few; room = g.room }; none = g.none }

      pub item_in : InStretch u o
      item_in =
          let g = item_past in
          record {
            some = i.some;
            times = i.times;
            after = omega (arith, i.after, g.steps);
            more = omega (arith, i.more, g.guards);
            few = g.few;
            room = g.room;
          }

      pub stretch_more : (p : Part) → Stretch u n p → Stretch t at p
      stretch_more p s =
          record { goes_on = λ stack e. r.goes_on (o ∷ stack) e ∙ s.goes_on stack e; grown = on p s.grown }
        where
          on : (p : Part) → Grown u n p → Grown t at p
          on (part.Refused f) g = tt
          on (part.Read v m) g =
              let h = item_past in
              record {
                past = omega (arith, h.past, g.past);
                steps = omega (arith, h.steps, g.steps);
                guards = omega (arith, h.guards, g.guards);
                few = g.few;
                room = g.room;
                none = g.none;
              }
