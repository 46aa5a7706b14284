-- What stands at the place of items that are due: a record that is copied, a stretch, or the end after them.
use Rattle.std.specs.Prelude.{◌≡◌, refl, List, [], ◌∷◌, ◌++◌, ℕ, zero, suc, ◌+◌, ◌-◌, ◌*◌, ◌/◌, ◌%◌, ◌≤◌, ◌<◌, length, get_or, take, drop}
use Rattle.std.proofs.Common.{sym, ap, subst, ◌∙◌, append_assoc, arith, add-zero, length-append, length-drop, drop-drop, get_or-drop}
use Rattle.std.proofs.Math.Seq.{take-append_seam, drop-append_seam}
use Rattle.records.specs.Rules.{body_size}
use Rattle.wire.specs.Listing.{Entry, guard, reset}
use Rattle.format.specs.Encode.{relation_code, step_bytes}
use Rattle.stretches.specs.Tree.{Items, none, step, stretch, items_on, copies, length_copies, at_least, expand}
use Rattle.write_out.specs.Due.{bytes_of, plain_bytes, Often, often_step, often_stretch, Ends, ends_table, ends_stretch, Due}

-- ---- the bytes of steps, one list after another and so often
bytes_append : (ss rs : List (List Entry)) → bytes_of (ss ++ rs) ≡ bytes_of ss ++ bytes_of rs
unfolding bytes_of
bytes_append [] rs = refl
bytes_append (s ∷ ss) rs = ap (λ l. step_bytes s ++ l) (bytes_append ss rs) ∙ sym (append_assoc (step_bytes s) (bytes_of ss) (bytes_of rs))

bytes_times : (k : ℕ) (ss : List (List Entry)) → bytes_of (copies k ss) ≡ copies k (bytes_of ss)
unfolding bytes_of copies
bytes_times zero ss = refl
bytes_times (suc k) ss = bytes_append ss (copies k ss) ∙ ap (λ l. bytes_of ss ++ l) (bytes_times k ss)

stretch_bytes : (times : ℕ) (js is : Items) → plain_bytes (stretch times js is) ≡ copies times (plain_bytes js) ++ plain_bytes is
unfolding expand
stretch_bytes times js is =
    bytes_append (copies times (expand js)) (expand is) ∙ ap (λ l. l ++ plain_bytes is) (bytes_times times (expand js))

-- ---- bytes that begin with a front at a place
record Front (bytes : List ℕ) (at : ℕ) (front tail : List ℕ) : Type 0 where
  inside : at + length front ≤ length bytes
  then : drop (at + length front) bytes ≡ tail
  first : take (length front) (drop at bytes) ≡ front

front_at : (bytes front tail : List ℕ) (at : ℕ) → drop at bytes ≡ front ++ tail → 0 < length front → Front bytes at front tail
front_at bytes front tail at e some = record {
  inside = omega (arith, length-drop at bytes, ap length e, length-append front tail);
  then = sym (drop-drop (length front) at bytes) ∙ ap (drop (length front)) e ∙ drop-append_seam front tail;
  first = ap (take (length front)) e ∙ take-append_seam front tail;
}

byte_of : (bytes bs : List ℕ) (at i : ℕ) → drop at bytes ≡ bs → get_or bytes (at + i) 0 ≡ get_or bs i 0
byte_of bytes bs at i e = sym (get_or-drop at bytes i 0) ∙ ap (λ l. get_or l i 0) e

kind_of : (bytes bs : List ℕ) (at : ℕ) → drop at bytes ≡ bs → get_or bytes at 0 ≡ get_or bs 0 0
kind_of bytes bs at e = ap (λ n. get_or bytes n 0) (sym (add-zero at)) ∙ byte_of bytes bs at 0 e

-- ---- the same items, with room from another place on
abbrev pub moved : {bytes : List ℕ} {at room end : ℕ} (r e : ℕ) (d : Due bytes at room end) → e + length (plain_bytes d.items) ≤ r → Due bytes at r e
moved r e d h = record {
  items = d.items;
  rest = d.rest;
  begins = d.begins;
  ends = d.ends;
  often = d.often;
  fits = h;
  short = d.short;
}

-- nothing is due, and the rest comes
pub record Ended {bytes : List ℕ} {at room end : ℕ} (d : Due bytes at room end) : Type 0 where
  pub next : drop at bytes ≡ d.rest
  pub all : plain_bytes d.items ≡ []

-- a record is due, up to a place
pub record Copied {bytes : List ℕ} {at room end : ℕ} (d : Due bytes at room end) (next : ℕ) : Type 0 where
  pub later : at < next
  pub inside : next ≤ length bytes
  pub left : Due bytes next room (end + (next - at))
  pub same : left.rest ≡ d.rest
  pub whole : take (next - at) (drop at bytes) ++ plain_bytes left.items ≡ plain_bytes d.items

-- the items after a stretch, whose close is at a place
pub record Closed {bytes : List ℕ} {at room end : ℕ} (d : Due bytes at room end) (inner : Due bytes (at + 2) room end) (times place : ℕ) : Type 0 where
  pub inside : place < length bytes
  pub left : Due bytes (place + 1) room (end + times * length (plain_bytes inner.items))
  pub same : left.rest ≡ d.rest
  pub whole : copies times (plain_bytes inner.items) ++ plain_bytes left.items ≡ plain_bytes d.items

-- a stretch is due
pub record Opened {bytes : List ℕ} {at room end : ℕ} (d : Due bytes at room end) (times : ℕ) : Type 0 where
  pub inside : at + 2 ≤ length bytes
  pub some : 1 ≤ times
  pub inner : Due bytes (at + 2) room end
  pub fits : end + times * length (plain_bytes inner.items) ≤ room
  pub closes : (place : ℕ) → drop place bytes ≡ inner.rest → Closed d inner times place

pub data Case {bytes : List ℕ} {at room end : ℕ} (d : Due bytes at room end) : Type 0 where
  case_table : get_or bytes at 0 ≡ 5 → at < length bytes → Ended d → Case d
  case_close : get_or bytes at 0 ≡ 8 → at < length bytes → Ended d → Case d
  case_stretch : get_or bytes at 0 ≡ 7 → Opened d (get_or bytes (at + 1) 0) → Case d
  case_record : 2 ≤ get_or bytes at 0 → get_or bytes at 0 ≤ 4 → Copied d (at + 1 + body_size (get_or bytes at 0)) → Case d

-- ---- they are all the cases
copied_front : {bytes : List ℕ} {at room end : ℕ} (d : Due bytes at room end) (front : List ℕ) (js : Items) (next : ℕ)
    → drop at bytes ≡ front ++ items_on js d.rest → 0 < length front → front ++ plain_bytes js ≡ plain_bytes d.items → Often js
    → next ≡ at + length front → Copied d next
copied_front {bytes} {at} {room} {end} d front js next e some whole often n = record {
  later = omega arith;
  inside = omega (arith, f.inside);
  left = record {
    items = js;
    rest = d.rest;
    begins = ap (λ x. drop x bytes) n ∙ f.then;
    ends = d.ends;
    often = often;
    fits = omega (arith, n, d.fits, ap length whole, length-append front (plain_bytes js));
    short = d.short;
  };
  same = refl;
  whole = ap (λ l. l ++ plain_bytes js) (ap (λ x. take x (drop at bytes)) size ∙ f.first) ∙ whole;
}
  where
    f : Front bytes at front (items_on js d.rest)
    f = front_at bytes front (items_on js d.rest) at e some

    size : next - at ≡ length front
    size = omega arith

often_of : {es : List Entry} {is : Items} → Often (step es is) → Often is
often_of (often_step _ _ h) = h

opened_at : {bytes : List ℕ} {at room end : ℕ} (d : Due bytes at room end) (times : ℕ) (js is : Items) → d.items ≡ stretch times js is
    → Often (stretch times js is) → Opened d times
unfolding items_on
opened_at {bytes} {at} {room} {end} d times js is e (often_stretch _ _ _ some inner-often after-often) = record {
  inside = omega (arith, f.inside);
  some = some;
  inner = record {
    items = js;
    rest = 8 ∷ items_on is d.rest;
    begins = f.then;
    ends = ends_stretch (items_on is d.rest);
    often = inner-often;
    fits = omega (arith, room_for, at_least times (length (plain_bytes js)) some);
    short = d.short;
  };
  fits = omega (arith, room_for);
  closes = λ place p.
      let g = front_at bytes (8 ∷ []) (items_on is d.rest) place p (omega arith) in
      record {
        inside = omega (arith, g.inside);
        left = record {
          items = is;
          rest = d.rest;
          begins = g.then;
          ends = d.ends;
          often = after-often;
          fits = omega (arith, room_for);
          short = d.short;
        };
        same = refl;
        whole = sym (ap plain_bytes e ∙ stretch_bytes times js is);
      };
}
  where
    f : Front bytes at (7 ∷ times ∷ []) (items_on js (8 ∷ items_on is d.rest))
    f = front_at bytes (7 ∷ times ∷ []) (items_on js (8 ∷ items_on is d.rest)) at (d.begins ∙ ap (λ x. items_on x d.rest) e) (omega arith)

    room_for : end + (times * length (plain_bytes js) + length (plain_bytes is)) ≤ room
    room_for =
        omega (
          arith,
          d.fits,
          ap (λ x. length (plain_bytes x)) e,
          ap length (stretch_bytes times js is),
          length-append (copies times (plain_bytes js)) (plain_bytes is),
          length_copies times (plain_bytes js),
        )

ended_at : {bytes : List ℕ} {at room end : ℕ} (d : Due bytes at room end) → d.items ≡ none → (rest : List ℕ) → d.rest ≡ rest → Ends rest → Case d
unfolding items_on expand bytes_of
ended_at {bytes} {at} d e rest r (ends_table bs) =
    let b = d.begins ∙ ap (λ x. items_on x d.rest) e in
    case_table (kind_of bytes (5 ∷ bs) at (b ∙ r)) (omega (arith, (front_at bytes (5 ∷ []) bs at (b ∙ r) (omega arith)).inside))
    (record { next = b; all = ap plain_bytes e })
ended_at {bytes} {at} d e rest r (ends_stretch bs) =
    let b = d.begins ∙ ap (λ x. items_on x d.rest) e in
    case_close (kind_of bytes (8 ∷ bs) at (b ∙ r)) (omega (arith, (front_at bytes (8 ∷ []) bs at (b ∙ r) (omega arith)).inside))
    (record { next = b; all = ap plain_bytes e })

record_at_lem : {bytes : List ℕ} {at room end : ℕ} (d : Due bytes at room end) (k : ℕ) (bs : List ℕ) (js : Items)
    → drop at bytes ≡ (k ∷ bs) ++ items_on js d.rest → (k ∷ bs) ++ plain_bytes js ≡ plain_bytes d.items → Often js
    → length bs ≡ body_size k → 2 ≤ k → k ≤ 4 → Case d
record_at_lem {bytes} {at} d k bs js e whole often size low high =
    case_record (subst (λ x. 2 ≤ x) (sym kind) low) (subst (λ x. x ≤ 4) (sym kind) high)
    (copied_front d (k ∷ bs) js (at + 1 + body_size (get_or bytes at 0)) e (omega arith) whole often
    (ap (λ x. at + 1 + body_size x) kind ∙ ap (λ x. at + 1 + x) (sym size) ∙ one at (length bs)))
  where
    kind : get_or bytes at 0 ≡ k
    kind = kind_of bytes (k ∷ bs ++ items_on js d.rest) at e

    one : (a b : ℕ) → a + 1 + b ≡ a + suc b
    one a b = omega arith

pub case_of : {bytes : List ℕ} {at room end : ℕ} (d : Due bytes at room end) → Case d
unfolding items_on expand bytes_of step_bytes
case_of {bytes} {at} d = go d.items refl d.often
  where
    begun : (is : Items) → d.items ≡ is → drop at bytes ≡ items_on is d.rest
    begun is e = d.begins ∙ ap (λ x. items_on x d.rest) e

    go : (is : Items) → d.items ≡ is → Often d.items → Case d
    go none e h = ended_at d e d.rest refl d.ends
    go (step [] is) e h = record_at_lem d 4 [] is (begun (step [] is) e) (sym (ap plain_bytes e)) (often_of (subst Often e h)) refl (omega arith) (omega arith)
    go (step (guard g ∷ es) is) e h =
        record_at_lem d 2 (g.clock ∷ relation_code g.relation ∷ g.constant % 256 ∷ g.constant / 256 ∷ []) (step es is)
        (begun (step (guard g ∷ es) is) e) (sym (ap plain_bytes e)) (often_step es is (often_of (subst Often e h))) refl (omega arith) (omega arith)
    go (step (reset j ∷ es) is) e h = record_at_lem d 3 (j ∷ []) (step es is) (begun (step (reset j ∷ es) is) e) (sym (ap plain_bytes e)) (often_step es is (often_of (subst Often e h))) refl (omega arith) (omega arith)
    go (stretch times js is) e h =
        case_stretch (kind_of bytes (7 ∷ times ∷ items_on js (8 ∷ items_on is d.rest)) at (begun (stretch times js is) e))
        (subst (Opened d) (sym (byte_of bytes (7 ∷ times ∷ items_on js (8 ∷ items_on is d.rest)) at 1 (begun (stretch times js is) e))) (opened_at d times js is e (subst Often e h)))
