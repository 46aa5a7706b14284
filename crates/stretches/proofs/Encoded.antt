-- Items that are sound, and within the limits when written out, are accepted, and counted as the steps written out.
use Rattle.std.specs.Prelude.{◌≡◌, refl, List, [], ◌∷◌, ◌++◌, ℕ, suc, ◌+◌, ◌*◌, ◌-◌, ◌≤◌, ◌<◌, length}
use Rattle.std.proofs.Common.{sym, ap₂, subst, ◌∙◌, add-zero, mul-le-mul_right, arith, length-append, lt-ltb, le-leb, ne_eqb, eq-eqb}
use Rattle.std.proofs.Math.Path.{ap}
use mathlib.Core.List.Memᴰ
use Rattle.table.specs.declared.Read.{Read}
use Rattle.table.specs.declared.Read.TheVariants as read
use Rattle.records.specs.declared.Tally.{Tally}
use Rattle.records.specs.Checking.{start}
use Rattle.wire.specs.Records.{records_from}
use Rattle.wire.specs.Reading.{judge_of}
use Rattle.wire.specs.Listing.{Entry, guard, reset, guards_of}
use Rattle.format.specs.Encode.{entry_bytes, step_bytes, guard_count, LegalStep}
use Rattle.format.specs.Shapes.{head_with, entry_at, finish_at, end_at, entered, stepped, head_tally, guards_more}
use Rattle.format.proofs.Encoded.{judge_head, judge_entry, judge_finish, judge_end, records_more, Free, free_none, free_first, free_rest, legal_rest}
use Rattle.format.proofs.Longest.{step_length, resets_few}
use Rattle.stretches.specs.declared.Open.{Open}
use Rattle.stretches.specs.Reading.{next, last, lift, opening, opened, closed, repeated, at_close, judge_in, check_in, read_out}
use Rattle.stretches.specs.Laws.{check_said}
use Rattle.stretches.specs.Steps.{own_judged}
use Rattle.stretches.specs.Judged.{open_at, close_at}
use Rattle.stretches.specs.Tree.{Items, none, step, stretch, items_on, encode_items, copies, at_least, expand, Sound, sound_step, sound_stretch}
use Rattle.stretches.specs.Rest.{counting_steps, counting_guards}

-- ---- one record
entry_said : (t : Tally) (stack : List Open) (at : ℕ) (e : Entry) → judge_in t stack (entry_at at e) ≡ lift stack (judge_of t (entry_at at e))
entry_said t stack at (guard g) = own_judged t stack (entry_at at (guard g)) refl
entry_said t stack at (reset j) = own_judged t stack (entry_at at (reset j)) refl

open_said : (t : Tally) (stack : List Open) (at times : ℕ) → 0 < at → 2 ≤ times → times ≤ 16 → length stack < 4 → t.pending ≡ 0
    → judge_in t stack (open_at at times) ≡ next t (opening t times ∷ stack)
unfolding judge_in opened
open_said t stack at times later low high deep p =
    simp (
      ne_eqb at 0 (λ z. omega arith),
      le-leb 2 times low,
      le-leb times 16 high,
      lt-ltb (length stack) 4 deep,
      eq-eqb t.pending 0 p,
    )

close_said : (t : Tally) (o : Open) (stack : List Open) (at : ℕ) → 0 < at → t.pending ≡ 0 → o.steps < t.steps
    → (at_close t o).steps ≤ 16 → (at_close t o).guards ≤ 64
    → judge_in t (o ∷ stack) (close_at at) ≡ next (at_close t o) stack
unfolding judge_in closed
close_said t o stack at later p some few room =
    rw (
      ne_eqb at 0 (λ z. omega arith),
      eq-eqb t.pending 0 p,
      lt-ltb o.steps t.steps some,
      le-leb (at_close t o).steps 16 few,
      le-leb (at_close t o).guards 64 room,
    )

-- ---- the records of a step
check_step : (len : ℕ) (rest : List ℕ) (answer : Read) (stack : List Open) (es : List Entry) (t : Tally) (at : ℕ) → 0 < at → t.clocks ≤ 6
    → LegalStep t.clocks es → Free t.pending es → t.steps < 16 → t.guards + length (guards_of es) ≤ 64
    → ((p : ℕ) → 0 < p → check_in len (stepped t (t.guards + length (guards_of es))) stack (records_from 0 p rest) ≡ answer)
    → check_in len t stack (records_from 0 at (step_bytes es ++ rest)) ≡ answer
unfolding records_from step_bytes guards_of
check_step len rest answer stack [] t at later clocks legal free few room then =
    check_said len t stack _ _ (next (stepped t t.guards) stack)
    (own_judged t stack (finish_at at) refl ∙ ap (lift stack) (judge_finish t at later few))
    ∙ ap (λ c. check_in len (stepped t c) stack (records_from 0 (at + 1) rest)) (sym (add-zero t.guards))
    ∙ then (at + 1) (omega arith)
check_step len rest answer stack (e ∷ es) t at later clocks legal free few room then =
    let more = guards_more e es in
    ap (check_in len t stack) (records_more at e es rest)
    ∙ check_said len t stack _ _ (next (entered t e) stack)
    (entry_said t stack at e
    ∙ ap (lift stack) (judge_entry t at later e (legal.entries e (Memᴰ.head refl)) (free_first t.pending e es free) (omega arith)))
    ∙ check_step len rest answer stack es (entered t e) (at + length (entry_bytes e)) (omega arith) clocks
    (legal_rest t.clocks e es legal) (free_rest t.clocks t.pending e es clocks legal free) few (omega arith)
    (λ p h. ap (λ c. check_in len (stepped t c) stack (records_from 0 p rest)) (omega (arith, more)) ∙ then p h)

-- ---- items: the tally after them
abbrev pub after : Tally → Items → Tally
after t is =
    record {
      clocks = t.clocks;
      steps = t.steps + length (expand is);
      guards = t.guards + guard_count (expand is);
      pending = 0;
    }

-- a count after some others, so often as it is repeated
repeated_is : (times c x : ℕ) → repeated times c (c + x) ≡ c + times * x
repeated_is times c x = let d : c + x - c ≡ x = omega arith in ap (λ n. c + times * n) d

check_items : (len n : ℕ) (is : Items) (d : ℕ) (stack : List Open) (t : Tally) (at : ℕ) → length stack ≡ d → Sound n d is → n ≡ t.clocks → n ≤ 6
    → 0 < at → t.pending ≡ 0 → t.steps + length (expand is) ≤ 16 → t.guards + guard_count (expand is) ≤ 64
    → (rest : List ℕ) (answer : Read)
    → ((p : ℕ) → 0 < p → check_in len (after t is) stack (records_from 0 p rest) ≡ answer)
    → check_in len t stack (records_from 0 at (items_on is rest)) ≡ answer
unfolding items_on expand guard_count records_from
check_items len n none d stack t at e s clocks six later p few room rest answer then =
    (λ i. check_in len
    (record { clocks = t.clocks; steps = add-zero t.steps i; guards = add-zero t.guards i; pending = sym p i }) stack
    (records_from 0 at rest)) ∙' then at later
  where
    infixr 5 ◌∙'◌
    ◌∙'◌ : {x y z : Read} → y ≡ x → y ≡ z → x ≡ z
    a ∙' b = sym a ∙ b
check_items len n (step es is) d stack t at e (sound_step _ _ _ legal s) clocks six later p few room rest answer then =
    let u = stepped t (t.guards + length (guards_of es)) in
    check_step len (items_on is rest) answer stack es t at later (omega arith) (subst (λ c. LegalStep c es) clocks legal)
    (free_none t.pending es p) (omega arith) (omega arith)
    (λ q h. check_items len n is d stack u q e s clocks six h refl (omega arith) (omega arith) rest answer
    (λ m l. ap₂ (λ x y. check_in len (record { clocks = t.clocks; steps = x; guards = y; pending = 0 }) stack (records_from 0 m rest))
    (omega arith) (omega arith) ∙ then m l))
check_items len n (stretch times js is) d stack t at e (sound_stretch _ _ _ _ low high deep some inner s) clocks six later p few room rest answer then =
    check_said len t stack _ _ (next t (o ∷ stack)) (open_said t stack at times later low high (omega (arith, e)) p)
    ∙ ap (λ m. check_in len t (o ∷ stack) (records_from 0 m (items_on js (8 ∷ items_on is rest)))) place
    ∙ check_items len n js (suc d) (o ∷ stack) t (at + 2) (omega (arith, e)) inner clocks six (omega arith) p
    (omega (arith, steps, few)) (omega (arith, guards, room))
    (8 ∷ items_on is rest) answer
    (closing (λ q h a b. check_items len n is d stack v q e s clocks six h refl a b rest answer))
  where
    o : Open
    o = opening t times

    x : ℕ
    x = length (expand js)

    y : ℕ
    y = guard_count (expand js)

    place : at + 1 + 1 ≡ at + 2
    place = omega arith

    all_steps : length (copies times (expand js) ++ expand is) ≡ times * length (expand js) + length (expand is)
    all_steps = counting_steps.sum (copies times (expand js)) (expand is) ∙ ap (λ m. m + length (expand is)) (counting_steps.often times (expand js))

    all_guards : guard_count (copies times (expand js) ++ expand is) ≡ times * guard_count (expand js) + guard_count (expand is)
    all_guards =
        counting_guards.sum (copies times (expand js)) (expand is) ∙ ap (λ m. m + guard_count (expand is)) (counting_guards.often times (expand js))

    steps : length (expand js) ≤ length (copies times (expand js) ++ expand is)
    steps = omega (arith, all_steps, at_least times (length (expand js)) (omega arith))

    guards : guard_count (expand js) ≤ guard_count (copies times (expand js) ++ expand is)
    guards = omega (arith, all_guards, at_least times (guard_count (expand js)) (omega arith))

    u : Tally
    u = after t js

    v : Tally
    v = at_close u o

    v_steps : v.steps ≡ t.steps + times * length (expand js)
    v_steps = repeated_is times t.steps (length (expand js))

    v_guards : v.guards ≡ t.guards + times * guard_count (expand js)
    v_guards = repeated_is times t.guards (guard_count (expand js))

    closing : ((q : ℕ) → 0 < q → v.steps + length (expand is) ≤ 16 → v.guards + guard_count (expand is) ≤ 64
        → ((m : ℕ) → 0 < m → check_in len (after v is) stack (records_from 0 m rest) ≡ answer)
        → check_in len v stack (records_from 0 q (items_on is rest)) ≡ answer)
        → (q : ℕ) → 0 < q → check_in len u (o ∷ stack) (records_from 0 q (8 ∷ items_on is rest)) ≡ answer
    closing again q h =
        check_said len u (o ∷ stack) _ _ (next v stack)
        (close_said u o stack q h refl (omega (arith, some)) (omega (arith, v_steps, all_steps, few)) (omega (arith, v_guards, all_guards, room)))
        ∙ again (q + 1) (omega arith) (omega (arith, v_steps, all_steps, few)) (omega (arith, v_guards, all_guards, room))
        (λ m l. ap₂ (λ a b. check_in len (record { clocks = t.clocks; steps = a; guards = b; pending = 0 }) stack (records_from 0 m rest))
        (omega (arith, v_steps, all_steps)) (omega (arith, v_guards, all_guards)) ∙ then m l)

-- ---- how long they are: no longer than written out
items_length : (n : ℕ) (is : Items) (d : ℕ) → n ≤ 6 → Sound n d is → (bs : List ℕ)
    → length (items_on is bs) ≤ 5 * guard_count (expand is) + 13 * length (expand is) + length bs
unfolding items_on expand guard_count
items_length n none d six s bs = omega arith
items_length n (step es is) d six (sound_step _ _ _ legal s) bs =
    omega (arith, length-append (step_bytes es) (items_on is bs), step_length es, resets_few n es legal, items_length n is d six s bs)
items_length n (stretch times js is) d six (sound_stretch _ _ _ _ low high deep some inner s) bs =
    omega (
      arith,
      items_length n js (suc d) six inner (8 ∷ items_on is bs),
      items_length n is d six s bs,
      counting_steps.sum (copies times (expand js)) (expand is),
      counting_steps.often times (expand js),
      counting_guards.sum (copies times (expand js)) (expand is),
      counting_guards.often times (expand js),
      mul-le-mul_right (length (expand js)) low,
      at_least times (guard_count (expand js)) (omega arith),
      some,
    )

pub longest : (n : ℕ) (is : Items) → n ≤ 6 → Sound n 0 is → length (expand is) ≤ 16 → guard_count (expand is) ≤ 64
    → length (encode_items n is) ≤ 531
unfolding encode_items
longest n is six s few room = omega (arith, items_length n is 0 six s (5 ∷ []))

-- Items that are sound and within the limits when written out are accepted, and counted as the steps written out.
pub read_encoded : (n : ℕ) (is : Items) → 1 ≤ n → n ≤ 6 → Sound n 0 is → 1 ≤ length (expand is) → length (expand is) ≤ 16
    → guard_count (expand is) ≤ 64
    → read_out (encode_items n is) ≡ read.Counted n (length (expand is)) (guard_count (expand is))
unfolding read_out encode_items records_from
read_encoded n is low six s some few room =
    rw (le-leb (length (1 ∷ n ∷ items_on is (5 ∷ []))) 4096 short)
    (check_said _ start [] _ _ (next (head_tally n) [])
    (own_judged start [] (head_with n) refl ∙ ap (lift []) (judge_head n low six))
    ∙ check_items _ n is 0 [] (head_tally n) 2 refl s refl six (omega arith) refl (omega arith) (omega arith) (5 ∷ [])
    (read.Counted n (length (expand is)) (guard_count (expand is))) ending)
  where
    short : length (1 ∷ n ∷ items_on is (5 ∷ [])) ≤ 4096
    short = let l = items_length n is 0 six s (5 ∷ []) in omega (arith, l)

    ending : (p : ℕ) → 0 < p → check_in (length (1 ∷ n ∷ items_on is (5 ∷ []))) (after (head_tally n) is) [] (records_from 0 p (5 ∷ []))
        ≡ read.Counted n (length (expand is)) (guard_count (expand is))
    ending p h =
        check_said _ (after (head_tally n) is) [] (end_at p) [] last (end_said p h)
        ∙ ap₂ (read.Counted n) (omega arith) (omega arith)
      where
        end_said : (p : ℕ) → 0 < p → judge_in (after (head_tally n) is) [] (end_at p) ≡ last
        end_said p h = unfold judge_in in ap (lift []) (judge_end (after (head_tally n) is) p h (omega (arith, some)) refl)
