-- A word so often as a number says, and the loop that writes it: each byte is the one a word before.
use Rattle.std.specs.Prelude.{◌≡◌, refl, List, [], ◌∷◌, ◌++◌, ℕ, zero, suc, ◌+◌, ◌-◌, ◌*◌, ◌≤◌, ◌<◌, length, get_or, set, take, drop}
use Rattle.std.proofs.Common.{sym, ap, subst, ◌∙◌, arith, length-append, length-set, length-take-le, take_at, take-suc, take_all, get_or-append-add, get_or-take}
use Rattle.std.proofs.Math.Decide.{dec_lt}
use Rattle.std.proofs.Math.ListN.{get_or-append}
use Rattle.stretches.specs.Tree.{copies, length_copies, at_least}
use Rattle.text.specs.Over.{over, over_fits, Written, written_one, written_then, written_as, written_length}

-- What a room has from a place up to another, it has after that so often as a number says.
pub record Repeats (before : List ℕ) (from end times : ℕ) (after : List ℕ) (stop : ℕ) : Type 0 where
  pub so : (old word : List ℕ) → Written old from word before end → Written old from (copies times word) after stop

-- one turn more changes nothing before it
more : (n : ℕ) (word : List ℕ) (i : ℕ) → i < n * length word → get_or (copies (suc n) word) i 0 ≡ get_or (copies n word) i 0
unfolding copies
more zero word i h = absurd (omega arith)
more (suc n) word i h = go (λ l. more n word (i - length word) (omega arith)) (dec_lt i (length word))
  where
    go : (length word ≤ i → get_or (word ++ copies n word) (i - length word) 0 ≡ get_or (copies n word) (i - length word) 0)
        → Dec (i < length word) → get_or (word ++ (word ++ copies n word)) i 0 ≡ get_or (word ++ copies n word) i 0
    go before (yes l) = get_or-append word (word ++ copies n word) 0 i l ∙ sym (get_or-append word (copies n word) 0 i l)
    go before (no l) =
        let e : length word + (i - length word) ≡ i = omega arith in
        subst (λ x. get_or (word ++ (word ++ copies n word)) x 0 ≡ get_or (word ++ copies n word) x 0) e
        (get_or-append-add word (word ++ copies n word) (i - length word) 0
        ∙ before (omega arith)
        ∙ sym (get_or-append-add word (copies n word) (i - length word) 0))

-- each byte is the one a word before
period : (n : ℕ) (word : List ℕ) (i : ℕ) → length word + i < n * length word
    → get_or (copies n word) (length word + i) 0 ≡ get_or (copies n word) i 0
unfolding copies
period zero word i h = absurd (omega arith)
period (suc n) word i h = get_or-append-add word (copies n word) i 0 ∙ sym (more n word i (omega arith))

-- a byte of what was written
get_d_over : (old : List ℕ) (from : ℕ) (text : List ℕ) (i : ℕ) → i < length text → from + length text ≤ length old
    → get_or (over old from text) (from + i) 0 ≡ get_or text i 0
get_d_over old from text i h fits =
    ap (λ l. get_or l (from + i) 0) (over_fits old from text fits)
    ∙ get_or-append (take from old ++ text) (drop (from + length text) old) 0 (from + i)
    (omega (arith, length-append (take from old) text, front))
    ∙ ap (λ n. get_or (take from old ++ text) (n + i) 0) (sym front)
    ∙ get_or-append-add (take from old) text i 0
  where
    front : length (take from old) ≡ from
    front = length-take-le from old (omega arith)

-- one byte more
again : (old word now : List ℕ) (from times m i j b : ℕ) → j ≡ from + m → m ≡ length word + i → 0 < length word
    → m < times * length word → from + times * length word ≤ length old → Written old from (take m (copies times word)) now j
    → get_or now (from + i) 0 ≡ b → Written old from (take (suc m) (copies times word)) (set now j b) (j + 1)
again old word now from times m i j b place turn some less fits w e =
    written_as (sym (take-suc (copies times word) m 0 (omega (arith, length_copies times word)) ∙ ap (λ x. take m (copies times word) ++ (x ∷ [])) same))
    (written_then w (written_one now j b))
  where
    long : length (take m (copies times word)) ≡ m
    long = length-take-le m (copies times word) (omega (arith, length_copies times word))

    same : get_or (copies times word) m 0 ≡ b
    same =
        ap (λ x. get_or (copies times word) x 0) turn
        ∙ period times word i (omega arith)
        ∙ sym (get_or-take m (copies times word) i 0 (omega arith))
        ∙ sym (get_d_over old from (take m (copies times word)) i (omega (arith, long)) (omega (arith, long)))
        ∙ ap (λ l. get_or l (from + i) 0) (sym w.contents)
        ∙ e

-- ---- the loop
pub record Turn (before : List ℕ) (from end times size stop : ℕ) (now : List ℕ) (j : ℕ) : Type 0 where
  pub size_is : size ≡ end - from
  pub stop_is : stop ≡ from + times * size
  pub after : from ≤ end
  pub low : end ≤ j
  pub high : j ≤ stop
  pub fits : stop ≤ length before
  pub room : length now ≡ length before
  pub so_far : (old word : List ℕ) → Written old from word before end → Written old from (take (j - from) (copies times word)) now j

sized : {old word before : List ℕ} {from end : ℕ} → Written old from word before end → length word ≡ end - from
sized w = omega (arith, w.place)

some_size : (t s : ℕ) → s < t * s → 0 < s
some_size t zero h = absurd (omega arith)
some_size t (suc s) h = omega arith

pub turn_first : (before : List ℕ) (from end times : ℕ) → from ≤ end → 1 ≤ times → from + times * (end - from) ≤ length before
    → Turn before from end times (end - from) (from + times * (end - from)) before end
unfolding copies
turn_first before from end zero after often fits = absurd (omega arith)
turn_first before from end (suc t) after often fits = record {
  size_is = refl;
  stop_is = refl;
  after = after;
  low = omega arith;
  high = omega (arith, at_least (suc t) (end - from) often);
  fits = fits;
  room = refl;
  so_far = λ old word w. written_as (sym (take_at word (copies t word) (end - from) (sized w))) w;
}

pub turn_more : {before : List ℕ} {from end times size stop : ℕ} {now : List ℕ} {j : ℕ} → Turn before from end times size stop now j → j < stop
    → Turn before from end times size stop (set now j (get_or now (j - size) 0)) (j + 1)
turn_more {before} {from} {end} {times} {size} {stop} {now} {j} t h = record {
  size_is = t.size_is;
  stop_is = t.stop_is;
  after = t.after;
  low = omega (arith, t.low);
  high = omega arith;
  fits = t.fits;
  room = length-set now j (get_or now (j - size) 0) ∙ t.room;
  so_far = step;
}
  where
    step : (old word : List ℕ) → Written old from word before end
        → Written old from (take (j + 1 - from) (copies times word)) (set now j (get_or now (j - size) 0)) (j + 1)
    step old word w =
        let s : length word ≡ size = sized w ∙ sym t.size_is in
        let all : times * length word ≡ times * size = ap (λ x. times * x) s in
        let m = j - from in
        let i = j - from - size in
        let e : suc (j - from) ≡ j + 1 - from = omega (arith, t.after, t.low) in
        let p : from + (j - from - size) ≡ j - size = omega (arith, t.after, t.low, t.size_is) in
        subst (λ n. Written old from (take n (copies times word)) (set now j (get_or now (j - size) 0)) (j + 1)) e
        (again old word now from times (j - from) (j - from - size) j (get_or now (j - size) 0)
        (omega (arith, t.after, t.low))
        (omega (arith, t.after, t.low, t.size_is, s))
        (rw s (some_size times size (omega (arith, h, t.stop_is, t.low, t.size_is, t.after))))
        (omega (arith, h, t.stop_is, t.low, t.after, all))
        (omega (arith, t.stop_is, t.fits, all, written_length w))
        (t.so_far old word w)
        (ap (λ n. get_or now n 0) p))

pub turn_last : {before : List ℕ} {from end times size stop : ℕ} {now : List ℕ} {j : ℕ} → Turn before from end times size stop now j → stop ≤ j
    → Repeats before from end times now stop
turn_last {before} {from} {end} {times} {size} {stop} {now} {j} t h = record {
  so = λ old word w.
      let s : length word ≡ size = sized w ∙ sym t.size_is in
      let all : times * length word ≡ times * size = ap (λ x. times * x) s in
      let e : j ≡ stop = omega (arith, t.high) in
      written_as (take_all (stop - from) (copies times word) (omega (arith, length_copies times word, all, t.stop_is)))
      (subst (λ n. Written old from (take (n - from) (copies times word)) now n) e (t.so_far old word w));
}
