use borrow.Author.Rules.{rules}
use native.Mathlib.Omega.{arith}
use mathlib.Core.Path.{◌≡◌, refl, sym, ◌∙◌, ap}
use mathlib.Core.Bool.{true}
use Prim.Native.Nat.{ℕ, ◌+◌, ◌-◌, ◌≤◌}
use lib.ListN.{length, get_or, drop}
use Rattle.format.specs.Judged.{within_true}
use Rattle.card_lines.specs.Front.{digits_in, standing, digits_at}
use Rattle.card_lines.specs.Places.{digits_out, digits_other, standing_next, standing_done}
use Rattle.records.specs.Rules.{within}
use borrow.Author.Tests.{not-true, not-false}
use Rattle.card_lines.proofs.digits_at.Goals as goal
use Rattle.card_lines.proofs.digits_at.Goals.{Else-not-between}

pub loop-next-init : goal.loop-next-init
unfolding digits_at
loop-next-init c = (c.requires.0, c.requires.1, omega arith, refl)

pub returns-then-not-between : goal.returns-then-not-between
returns-then-not-between c =
    let s = c in
    standing_done c.loop-next.value c.loop-next.next _ c.loop-next.invariant.2
    (digits_other c.args.text.now c.loop-next.next (omega arith) (sym c.between.ensures ∙ not-true _ c.if-not-between.true-raw))
    ∙ c.loop-next.invariant.3

-- the byte is a digit
module _ (c : Else-not-between) where
  abbrev byte : ℕ
  byte = let s = c in get_or c.args.text.now c.loop-next.next 0

  digit : within 48 byte 57 ≡ true
  digit = sym c.between.ensures ∙ not-false _ c.if-not-between.false-raw

pub overflow_sub-byte : goal.overflow_sub-byte
overflow_sub-byte c = omega (arith, within_true 48 (byte (goal.at.overflow_sub-byte c).Else-not-between) 57 (digit (goal.at.overflow_sub-byte c).Else-not-between))

pub overflow_add-value : goal.overflow_add-value
overflow_add-value c = omega (arith, within_true 48 (byte (goal.at.overflow_add-value c).Else-not-between) 57 (digit (goal.at.overflow_add-value c).Else-not-between))

pub loop-next-preserved : goal.loop-next-preserved
loop-next-preserved c =
    let s = c in
    let a = c.args in (
      c.loop-next.invariant.0,
      omega arith,
      omega (arith, c.hold-value.ensures),
      ap (λ v. standing v (c.loop-next.next + 1) (digits_in (drop (c.loop-next.next + 1) a.text.now))) c.hold-value.ensures
          ∙ standing_next a.text.now c.loop-next.value c.loop-next.next (omega arith)
          (digit (goal.at.loop-next-preserved c).Else-not-between)
          ∙ c.loop-next.invariant.3,
    )

pub returns : goal.returns
returns c =
    let s = c in
    standing_done c.loop-next.value c.loop-next.next _ c.loop-next.invariant.2
    (digits_out c.args.text.now c.loop-next.next c.loop-next-test.false)
    ∙ c.loop-next.invariant.3
