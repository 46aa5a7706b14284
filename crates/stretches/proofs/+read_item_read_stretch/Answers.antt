-- An item is a step, or what its stretch holds; a stretch is its items, one after the other, up to its close.
use mathlib.Core.Path.{◌≡◌, sym, ap, subst, ◌∙◌}
use mathlib.Core.Bool.{true}
use mathlib.Core.List.{List, ◌∷◌}
use Prim.Native.Nat.{ℕ, ◌<◌, ◌+◌, ◌-◌, ◌*◌}
use native.Mathlib.Omega.{arith}
use lib.ListN.{length, get_or}
use Rattle.records.specs.declared.Tally.{Tally}
use Rattle.stretches.specs.declared.Part.{Part}
use Rattle.stretches.specs.declared.Part.TheVariants as part
use Rattle.stretches.specs.Reading.{may_open, opening}
use Rattle.stretches.specs.Parts.{Reads, InStretch}
use Rattle.stretches.specs.Items.{item_cut, item_shut, opened_begins, opened_in, item_opened, stretch_out, stretch_end, stretch_closed, stretch_item, stretch_refused, item_past, item_begins, item_in, stretch_more}
use Rattle.stretches.proofs.+read_item_read_stretch.Goals as goal
use Rattle.stretches.proofs.+read_item_read_stretch.Goals.{read_item-Else-not-opens, read_stretch-In-Read}

item_falls : (l at t : ℕ) → (l - at) * 2 ≡ t → at < l → (l - (at + 2)) * 2 + 1 < t
item_falls l at t e h = omega arith

same_falls : (l at t : ℕ) → (l - at) * 2 + 1 ≡ t → (l - at) * 2 < t
same_falls l at t e = omega arith

more_falls : (l at next t : ℕ) → (l - at) * 2 + 1 ≡ t → at < l → at < next → (l - next) * 2 + 1 < t
more_falls l at next t e h g = omega arith

taken : (bytes : List ℕ) (u : Tally) (at depth : ℕ) (r : Part) (v : Tally) (n : ℕ) → Reads bytes u at depth (λ stack. stack) r → r ≡ part.Read v n
    → Reads bytes u at depth (λ stack. stack) (part.Read v n)
taken bytes u at depth r v n h e = subst (Reads bytes u at depth (λ stack. stack)) e h

-- the stretch may be opened
can : (t : ℕ) (c : read_item-Else-not-opens t) → may_open (get_or c.args.bytes.now (c.args.at + 1) 0) c.args.depth ≡ true
can t c = ap (λ n. may_open n c.args.depth) (sym c.byte_in-times.ensures.0) ∙ sym c.opens.ensures ∙ c.if-not-opens.false

pub read_item-returns-then-bytes-at : goal.read_item-returns-then-bytes-at
read_item-returns-then-bytes-at t c =
    subst (Reads c.args.bytes.now c.args.t c.args.at c.args.depth (λ stack. stack)) (sym c.stop.ensures)
    (item_cut c.args.bytes.now c.args.at c.args.t c.requires (sym c.byte_in-k.ensures.0 ∙ c.if-k-ne7.false) c.args.depth c.if-bytes-at.true)

pub read_item-returns-then-not-opens : goal.read_item-returns-then-not-opens
read_item-returns-then-not-opens t c =
    subst (Reads c.args.bytes.now c.args.t c.args.at c.args.depth (λ stack. stack)) (sym c.stop-then-not-opens.ensures)
    (item_shut c.args.bytes.now c.args.at c.args.t c.requires (sym c.byte_in-k.ensures.0 ∙ c.if-k-ne7.false)
    c.if-bytes-at.false c.args.depth
    (ap (λ n. may_open n c.args.depth) (sym c.byte_in-times.ensures.0) ∙ sym c.opens.ensures ∙ c.if-not-opens.true))

pub read_item-read_stretch-requires : goal.read_item-read_stretch-requires
read_item-read_stretch-requires t c =
    let k7 = sym c.byte_in-k.ensures.0 ∙ c.if-k-ne7.false in
    let may = can t (goal.at.read_item-read_stretch-requires t c).Else-not-opens in (
      item_falls (length c.args.bytes.now) c.args.at t c.decreases c.requires.here,
      (
        opened_begins c.args.bytes.now c.args.at c.args.t c.requires k7 c.if-bytes-at.false c.args.depth may,
        subst (λ n. InStretch c.args.t (opening c.args.t n)) (sym c.byte_in-times.ensures.0)
            (opened_in c.args.bytes.now c.args.at c.args.t c.requires k7 c.if-bytes-at.false c.args.depth may),
      ),
    )

pub read_item-returns : goal.read_item-returns
read_item-returns t c =
    let k7 = sym c.byte_in-k.ensures.0 ∙ c.if-k-ne7.false in
    let may = can t (goal.at.read_item-returns t c).Else-not-opens in
    item_opened c.args.bytes.now c.args.at c.args.t c.requires k7 c.if-bytes-at.false c.args.depth may c.read_stretch.result
    (subst (λ n. Reads c.args.bytes.now c.args.t (c.args.at + 2) (c.args.depth + 1) (λ stack. opening c.args.t n ∷ stack) c.read_stretch.result)
    c.byte_in-times.ensures.0 c.read_stretch.ensures)

pub read_stretch-returns-then-len-at : goal.read_stretch-returns-then-len-at
read_stretch-returns-then-len-at t c =
    subst (Reads c.args.bytes.now c.args.t c.args.at c.args.depth (λ stack. c.args.o ∷ stack)) (sym c.stop.ensures)
    (stretch_out c.args.bytes.now c.args.at c.args.t c.args.depth c.args.o c.requires.0 c.requires.1 c.if-len-at.true)

pub read_stretch-returns-then-k-eq8 : goal.read_stretch-returns-then-k-eq8
read_stretch-returns-then-k-eq8 t c =
    subst (Reads c.args.bytes.now c.args.t c.args.at c.args.depth (λ stack. c.args.o ∷ stack)) (sym c.close.ensures)
    (stretch_closed c.args.bytes.now c.args.at c.args.t c.args.depth c.args.o c.requires.0 c.requires.1 c.if-len-at.false
    (sym c.byte_in-k.ensures.0 ∙ c.if-k-eq8.true))

pub read_stretch-returns-then-k-eq5 : goal.read_stretch-returns-then-k-eq5
read_stretch-returns-then-k-eq5 t c =
    subst (Reads c.args.bytes.now c.args.t c.args.at c.args.depth (λ stack. c.args.o ∷ stack)) (sym c.stop-then-k-eq5.ensures)
    (stretch_end c.args.bytes.now c.args.at c.args.t c.args.depth c.args.o c.requires.0 c.requires.1 c.if-len-at.false
    (sym c.byte_in-k.ensures.0 ∙ c.if-k-eq5.true))

pub read_stretch-read_item-first-requires : goal.read_stretch-read_item-first-requires
read_stretch-read_item-first-requires t c =
    let k = c.byte_in-k.ensures.0 in (
      same_falls (length c.args.bytes.now) c.args.at t c.decreases,
      stretch_item c.args.bytes.now c.args.at c.args.t c.args.depth c.args.o c.requires.0 c.requires.1 c.if-len-at.false
          (λ e. c.if-k-eq8.false (k ∙ e)) (λ e. c.if-k-eq5.false (k ∙ e)),
    )

-- the item is read
item : (t : ℕ) (c : read_stretch-In-Read t) → Reads c.args.bytes.now c.args.t c.args.at c.args.depth (λ stack. stack) (part.Read c.in-Read.u c.in-Read.next)
item t c = taken c.args.bytes.now c.args.t c.args.at c.args.depth c.read_item-first.result c.in-Read.u c.in-Read.next c.read_item-first.ensures c.in-Read.is

pub read_stretch-read_stretch-requires : goal.read_stretch-read_stretch-requires
read_stretch-read_stretch-requires t c =
    let r = item t (goal.at.read_stretch-read_stretch-requires t c).In-Read in (
      more_falls (length c.args.bytes.now) c.args.at _ t c.decreases c.if-len-at.false
          (item_past c.args.bytes.now c.args.at c.args.t c.args.depth c.args.o c.requires.0 c.requires.1 c.if-len-at.false _ _ r).past,
      (
        item_begins c.args.bytes.now c.args.at c.args.t c.args.depth c.args.o c.requires.0 c.requires.1 c.if-len-at.false _ _ r,
        item_in c.args.bytes.now c.args.at c.args.t c.args.depth c.args.o c.requires.0 c.requires.1 c.if-len-at.false _ _ r,
      ),
    )

pub read_stretch-returns-in-Refused : goal.read_stretch-returns-in-Refused
read_stretch-returns-in-Refused t c =
    stretch_refused c.args.bytes.now c.args.at c.args.t c.args.depth c.args.o c.requires.0 c.requires.1 c.if-len-at.false _
    (subst (Reads c.args.bytes.now c.args.t c.args.at c.args.depth (λ stack. stack)) c.in-Refused.is c.read_item-first.ensures)

pub read_stretch-returns-in-Read : goal.read_stretch-returns-in-Read
read_stretch-returns-in-Read t c =
    let r = item t (goal.at.read_stretch-returns-in-Read t c).In-Read in
    stretch_more c.args.bytes.now c.args.at c.args.t c.args.depth c.args.o c.requires.0 c.requires.1 c.if-len-at.false _ _ r
    c.read_stretch.result c.read_stretch.ensures
