-- A record is copied, a stretch is written and then repeated, and an end ends the items.
use native.Mathlib.Omega.{arith}
use mathlib.Core.Path.{◌≡◌, refl, ap}
use Prim.Native.Nat.{ℕ, ◌+◌, ◌-◌, ◌≤◌, ◌<◌}
use lib.ListN.{length}
use Rattle.records.specs.Rules.{body_size}
use Rattle.write_out.specs.Cases.{Copied}
use Rattle.write_out.specs.Going.{due_here, going_first, going_table, going_close, left_record, going_record, record_fits, left_stretch, inner_due, repeat_due, going_stretch, stretch_later}
use Rattle.write_out.proofs.+write_items.Goals as goal
use Rattle.write_out.proofs.+write_items.Goals.{At-loop-from, Then-k-eq7, After-body_size}

falls_inner : (l from at t : ℕ) → l - from ≡ t → from ≤ at → at + 2 ≤ l → l - (at + 2) < t
falls_inner l from at t e h k = omega arith

next_is : (at k b : ℕ) → b ≡ body_size k → at + 1 + b ≡ at + 1 + body_size k
next_is at k b e = ap (λ x. at + 1 + x) e

falls_on : (l at next : ℕ) → at < next → at < l → l - next < l - at
falls_on l at next h k = omega arith

-- the place is inside the bytes
here : (t : ℕ) (c : At-loop-from t) → c.loop-from.at < length c.args.bytes.now
here t c = due_here (c.loop-from.invariant.each c.requires).left

-- a stretch is due
opened : (t : ℕ) (c : Then-k-eq7 t) → c.loop-from.at + 2 ≤ length c.args.bytes.now
opened t c = (left_stretch c.loop-from.invariant c.requires _ _ c.byte_in-k.ensures.0 c.if-k-eq7.true refl).inside

-- a record is due
copied : (t : ℕ) (c : After-body_size t)
    → Copied (c.loop-from.invariant.each c.requires).left (c.loop-from.at + 1 + c.body_size.result)
copied t c =
    left_record c.loop-from.invariant c.requires _ _ c.byte_in-k.ensures.0
    (next_is _ c.byte_in-k.result _ c.body_size.ensures.0) c.if-k-eq5.false c.if-k-eq8.false c.if-k-eq7.false

pub loop-from-init : goal.loop-from-init
loop-from-init t c = going_first _ _ _ _

pub byte_in-k-requires : goal.byte_in-k-requires
byte_in-k-requires t c = here t (goal.at.byte_in-k-requires t c).At-loop-from

pub returns-then-k-eq5 : goal.returns-then-k-eq5
returns-then-k-eq5 t c = going_table c.loop-from.invariant _ c.byte_in-k.ensures.0 c.if-k-eq5.true

pub returns-then-k-eq8 : goal.returns-then-k-eq8
returns-then-k-eq8 t c = going_close c.loop-from.invariant _ c.byte_in-k.ensures.0 c.if-k-eq8.true

pub byte_in-times-requires : goal.byte_in-times-requires
byte_in-times-requires t c = omega (arith, opened t c)

pub write_items-inner-requires : goal.write_items-inner-requires
write_items-inner-requires t c = (
  falls_inner _ _ _ _ c.decreases (c.loop-from.invariant.each c.requires).past
      (opened t (goal.at.write_items-inner-requires t c).Then-k-eq7),
  inner_due c.loop-from.invariant c.requires _ _ c.byte_in-k.ensures.0 c.if-k-eq7.true c.byte_in-times.ensures.0,
)

pub repeat-end-requires : goal.repeat-end-requires
repeat-end-requires t c =
    let r = repeat_due c.loop-from.invariant c.requires _ _ c.byte_in-k.ensures.0 c.if-k-eq7.true c.byte_in-times.ensures.0 _ _ _ c.write_items-inner.ensures in
    (r.0, r.1, r.2)

pub overflow_add-at-then-k-eq7-2 : goal.overflow_add-at-then-k-eq7-2
overflow_add-at-then-k-eq7-2 t c =
    let r = repeat_due c.loop-from.invariant c.requires _ _ c.byte_in-k.ensures.0 c.if-k-eq7.true c.byte_in-times.ensures.0 _ _ _ c.write_items-inner.ensures in
    record { fits = omega (arith, r.3, c.requires.short) }

pub loop-from-smaller-then-k-eq7 : goal.loop-from-smaller-then-k-eq7
loop-from-smaller-then-k-eq7 t c =
    let n = stretch_later c.loop-from.invariant c.requires _ _ c.byte_in-k.ensures.0 c.if-k-eq7.true c.byte_in-times.ensures.0 _ _ _ c.write_items-inner.ensures in
    falls_on _ _ _ n (here t (goal.at.loop-from-smaller-then-k-eq7 t c).At-loop-from)

pub loop-from-preserved-then-k-eq7 : goal.loop-from-preserved-then-k-eq7
loop-from-preserved-then-k-eq7 t c =
    going_stretch c.loop-from.invariant c.requires _ _ c.byte_in-k.ensures.0 c.if-k-eq7.true c.byte_in-times.ensures.0 _ _ _ _ _ c.write_items-inner.ensures c.repeat-end.ensures

pub overflow_add-next : goal.overflow_add-next
overflow_add-next t c =
    record { fits = omega (arith, here t (goal.at.overflow_add-next t c).At-loop-from, c.requires.short) }

pub overflow_add-next-in-loop-from : goal.overflow_add-next-in-loop-from
overflow_add-next-in-loop-from t c =
    record { fits = omega (arith, here t (goal.at.overflow_add-next-in-loop-from t c).At-loop-from, c.requires.short, c.body_size.ensures.1) }

pub slice_bounds-put_word-end : goal.slice_bounds-put_word-end
slice_bounds-put_word-end t c = (copied t (goal.at.slice_bounds-put_word-end t c).After-body_size).inside

pub put_word-end-requires : goal.put_word-end-requires
put_word-end-requires t c =
    record_fits c.loop-from.invariant c.requires _ (copied t (goal.at.put_word-end-requires t c).After-body_size)

pub loop-from-preserved : goal.loop-from-preserved
loop-from-preserved t c =
    going_record c.loop-from.invariant _ _ c.byte_in-k.ensures.0 (next_is _ c.byte_in-k.result _ c.body_size.ensures.0)
    c.if-k-eq5.false c.if-k-eq8.false c.if-k-eq7.false _ _ _ refl c.put_word-end.ensures
