-- The loop that writes items: what is written so far, and the items that are left.
use Rattle.std.specs.Prelude.{◌≡◌, refl, List, [], ◌++◌, ℕ, ◌+◌, ◌-◌, ◌*◌, ◌≤◌, ◌<◌, length, get_or, take, drop}
use Rattle.std.proofs.Common.{sym, ap, subst, ◌∙◌, append_assoc, append-nil, arith, length-append}
use Rattle.text.specs.Over.{Written, written_none, written_then, written_as, written_length}
use Rattle.records.specs.Rules.{body_size}
use Rattle.stretches.specs.Tree.{copies}
use Rattle.write_out.specs.Copies.{Repeats}
use Rattle.write_out.specs.Due.{plain_bytes, Due, Writes}
use Rattle.write_out.specs.Cases.{moved, Ended, Copied, Opened, Case, case_table, case_close, case_stretch, case_record, case_of}

-- ---- what the byte at the place decides
pub due_here : {bytes : List ℕ} {at room end : ℕ} → Due bytes at room end → at < length bytes
due_here {bytes} {at} d = go (case_of d)
  where
    go : Case d → at < length bytes
    go (case_table e h x) = h
    go (case_close e h x) = h
    go (case_stretch e o) = omega (arith, o.inside)
    go (case_record low high c) = omega (arith, c.inside, c.later)

due_table : {bytes : List ℕ} {at room end : ℕ} (d : Due bytes at room end) → get_or bytes at 0 ≡ 5 → Ended d
due_table d h = go (case_of d)
  where
    go : Case d → Ended d
    go (case_table e i x) = x
    go (case_close e i x) = x
    go (case_stretch e o) = absurd (omega arith)
    go (case_record low high c) = absurd (omega arith)

due_close : {bytes : List ℕ} {at room end : ℕ} (d : Due bytes at room end) → get_or bytes at 0 ≡ 8 → Ended d
due_close d h = go (case_of d)
  where
    go : Case d → Ended d
    go (case_table e i x) = x
    go (case_close e i x) = x
    go (case_stretch e o) = absurd (omega arith)
    go (case_record low high c) = absurd (omega arith)

due_stretch : {bytes : List ℕ} {at room end : ℕ} (d : Due bytes at room end) → get_or bytes at 0 ≡ 7 → Opened d (get_or bytes (at + 1) 0)
due_stretch {bytes} {at} d h = go (case_of d)
  where
    go : Case d → Opened d (get_or bytes (at + 1) 0)
    go (case_table e i x) = absurd (omega arith)
    go (case_close e i x) = absurd (omega arith)
    go (case_stretch e o) = o
    go (case_record low high c) = absurd (omega arith)

due_record : {bytes : List ℕ} {at room end : ℕ} (d : Due bytes at room end) → (get_or bytes at 0 ≡ 5 → ⊥) → (get_or bytes at 0 ≡ 8 → ⊥)
    → (get_or bytes at 0 ≡ 7 → ⊥) → Copied d (at + 1 + body_size (get_or bytes at 0))
due_record {bytes} {at} d five eight seven = go (case_of d)
  where
    go : Case d → Copied d (at + 1 + body_size (get_or bytes at 0))
    go (case_table e i x) = absurd (five e)
    go (case_close e i x) = absurd (eight e)
    go (case_stretch e o) = absurd (seven e)
    go (case_record low high c) = c

-- ---- so far
pub record Midway {bytes : List ℕ} {from room start : ℕ} (d : Due bytes from room start) (old now : List ℕ) (at end : ℕ) : Type 0 where
  pub past : from ≤ at
  pub left : Due bytes at room end
  pub same : left.rest ≡ d.rest
  pub done : List ℕ
  pub written : Written old start done now end
  pub whole : done ++ plain_bytes left.items ≡ plain_bytes d.items

pub record Going (bytes : List ℕ) (from start : ℕ) (old now : List ℕ) (at end : ℕ) : Type 0 where
  pub room : length now ≡ length old
  pub each : (d : Due bytes from (length old) start) → Midway d old now at end

pub going_first : (bytes : List ℕ) (from start : ℕ) (old : List ℕ) → Going bytes from start old old from start
going_first bytes from start old = record {
  room = refl;
  each = λ d. record { past = omega arith; left = d; same = refl; done = []; written = written_none old start; whole = refl };
}

module _ {bytes : List ℕ} {from start : ℕ} {old now : List ℕ} {at end : ℕ} (g : Going bytes from start old now at end) where
  -- nothing is left
  ended : ((d : Due bytes at (length old) end) → Ended d) → Writes bytes from start old now at end
  ended x = record {
    each = λ d.
        let m = g.each d in
        let e = x m.left in
        record {
          past = m.past;
          next = e.next ∙ m.same;
          written = written_as (sym (append-nil m.done) ∙ ap (λ l. m.done ++ l) (sym e.all) ∙ m.whole) m.written;
        };
  }

  pub going_table : (k : ℕ) → k ≡ get_or bytes at 0 → k ≡ 5 → Writes bytes from start old now at end
  going_table k e h = ended (λ d. due_table d (sym e ∙ h))

  pub going_close : (k : ℕ) → k ≡ get_or bytes at 0 → k ≡ 8 → Writes bytes from start old now at end
  going_close k e h = ended (λ d. due_close d (sym e ∙ h))

  -- a record is copied
  pub left_record : (d : Due bytes from (length old) start) (k next : ℕ) → k ≡ get_or bytes at 0 → next ≡ at + 1 + body_size k → (k ≡ 5 → ⊥) → (k ≡ 8 → ⊥)
      → (k ≡ 7 → ⊥) → Copied (g.each d).left next
  left_record d k next e n five eight seven =
      subst (Copied (g.each d).left) (sym (n ∙ ap (λ x. at + 1 + body_size x) e))
      (due_record (g.each d).left (λ h. five (e ∙ h)) (λ h. eight (e ∙ h)) (λ h. seven (e ∙ h)))

  -- there is room for it
  pub record_fits : (d : Due bytes from (length old) start) (next : ℕ) → Copied (g.each d).left next
      → end + length (take (next - at) (drop at bytes)) ≤ length now
  record_fits d next c =
      omega (
        arith,
        g.room,
        (g.each d).left.fits,
        ap length c.whole,
        length-append (take (next - at) (drop at bytes)) (plain_bytes c.left.items),
      )

  -- with more written, and items left after it
  onward : (d : Due bytes from (length old) start) (m : Midway d old now at end) (word after : List ℕ) (next stop : ℕ) {room' end' : ℕ}
      → at ≤ next → (left : Due bytes next room' end') → left.rest ≡ m.left.rest
      → word ++ plain_bytes left.items ≡ plain_bytes m.left.items → Written now end word after stop → Midway d old after next stop
  onward d m word after next stop later left same whole w = record {
    past = omega (arith, m.past);
    left = moved (length old) stop left
        (omega (arith, m.left.fits, w.place, ap length whole, length-append word (plain_bytes left.items)));
    same = same ∙ m.same;
    done = m.done ++ word;
    written = written_then m.written w;
    whole = append_assoc m.done word (plain_bytes left.items) ∙ ap (λ l. m.done ++ l) whole ∙ m.whole;
  }

  pub going_record : (k next : ℕ) → k ≡ get_or bytes at 0 → next ≡ at + 1 + body_size k → (k ≡ 5 → ⊥) → (k ≡ 8 → ⊥) → (k ≡ 7 → ⊥)
      → (word after : List ℕ) (stop : ℕ) → word ≡ take (next - at) (drop at bytes) → Written now end word after stop
      → Going bytes from start old after next stop
  going_record k next e n five eight seven word after stop part w = record {
    room = written_length w ∙ g.room;
    each = λ d.
        let c = left_record d k next e n five eight seven in
        onward d (g.each d) word after next stop (omega (arith, c.later)) c.left c.same
        (ap (λ l. l ++ plain_bytes c.left.items) part ∙ c.whole) w;
  }

  -- a stretch is written, and then repeated
  pub left_stretch : (d : Due bytes from (length old) start) (k times : ℕ) → k ≡ get_or bytes at 0 → k ≡ 7 → times ≡ get_or bytes (at + 1) 0
      → Opened (g.each d).left times
  left_stretch d k times e h f = subst (Opened (g.each d).left) (sym f) (due_stretch (g.each d).left (sym e ∙ h))

  -- what is inside it is due
  abbrev pub inner_due : (d : Due bytes from (length old) start) (k times : ℕ) → k ≡ get_or bytes at 0 → k ≡ 7 → times ≡ get_or bytes (at + 1) 0
      → Due bytes (at + 2) (length now) end
  inner_due d k times e h f =
      let o = left_stretch d k times e h f in
      moved (length now) end o.inner (omega (arith, o.inner.fits, g.room))

  pub repeat_due : (d : Due bytes from (length old) start) (k times : ℕ) → k ≡ get_or bytes at 0 → k ≡ 7 → times ≡ get_or bytes (at + 1) 0
      → (mid : List ℕ) (place stop : ℕ) → Writes bytes (at + 2) end now mid place stop
      → (end ≤ stop) × (1 ≤ times) × (end + times * (stop - end) ≤ length mid) × (place < length bytes)
  repeat_due d k times e h f mid place stop w =
      let o = left_stretch d k times e h f in
      let x = w.each (inner_due d k times e h f) in
      let size : stop - end ≡ length (plain_bytes o.inner.items) = omega (arith, x.written.place) in (
        omega (arith, x.written.place),
        o.some,
        subst (λ n. end + times * n ≤ length mid) (sym size) (omega (arith, o.fits, written_length x.written, g.room)),
        (o.closes place x.next).inside,
      )

  pub going_stretch : Due bytes from (length old) start → (k times : ℕ) → k ≡ get_or bytes at 0 → k ≡ 7 → times ≡ get_or bytes (at + 1) 0
      → (mid after : List ℕ) (place stop last : ℕ) → Writes bytes (at + 2) end now mid place stop
      → Repeats mid end stop times after last → Going bytes from start old after (place + 1) last
  going_stretch due k times e h f mid after place stop last w r = record {
    room = written_length (r.so now _ (w.each (inner_due due k times e h f)).written) ∙ g.room;
    each = λ d.
        let o = left_stretch d k times e h f in
        let x = w.each (inner_due d k times e h f) in
        let c = o.closes place x.next in
        onward d (g.each d) (copies times (plain_bytes o.inner.items)) after (place + 1) last (omega (arith, x.past)) c.left c.same
        c.whole (r.so now (plain_bytes o.inner.items) x.written);
  }

  -- the place after the stretch is later
  pub stretch_later : (d : Due bytes from (length old) start) (k times : ℕ) → k ≡ get_or bytes at 0 → k ≡ 7 → times ≡ get_or bytes (at + 1) 0
      → (mid : List ℕ) (place stop : ℕ) → Writes bytes (at + 2) end now mid place stop → at < place + 1
  stretch_later d k times e h f mid place stop w = omega (arith, (w.each (inner_due d k times e h f)).past)
