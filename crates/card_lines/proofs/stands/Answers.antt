use borrow.Author.Rules.{rules}
use native.Mathlib.Omega.{arith}
use mathlib.Core.Path.{◌≡◌, sym, ◌∙◌, ap}
use Prim.Native.Nat.{◌+◌, ◌-◌, ◌≤◌}
use native.Mathlib.Nat.{add-zero, add_assoc}
use lib.ListN.{length, drop, length-drop}
use Rattle.card_lines.specs.Front.{starts}
use Rattle.card_lines.specs.Places.{starts_cut, starts_past, starts_next, starts_differ}
use Rattle.card_lines.proofs.stands.Goals as goal

pub returns-then-text-at : goal.returns-then-text-at
returns-then-text-at c =
    let a = c.args in
    sym (starts_cut a.word.now _ (omega (arith, c.if-text-at.true, length-drop a.at a.text.now)))

pub loop-i-init : goal.loop-i-init
loop-i-init c =
    let a = c.args in
    (c.requires.0, omega arith, omega arith, ap (λ n. starts a.word.now (drop n a.text.now)) (add-zero a.at))

pub returns-then-text-at-2 : goal.returns-then-text-at-2
returns-then-text-at-2 c =
    let s = c in
    let a = c.args in
    sym (starts_differ a.word.now a.text.now c.loop-i.i (a.at + c.loop-i.i) (omega arith) (omega arith) c.if-text-at-2.true) ∙ c.loop-i.invariant.3

pub loop-i-preserved : goal.loop-i-preserved
loop-i-preserved c =
    let s = c in
    let a = c.args in (
      c.loop-i.invariant.0,
      c.loop-i.invariant.1,
      omega arith,
      ap (λ n. starts (drop (c.loop-i.i + 1) a.word.now) (drop n a.text.now)) (sym (add_assoc a.at c.loop-i.i 1))
          ∙ sym (starts_next a.word.now a.text.now c.loop-i.i (a.at + c.loop-i.i) (omega arith) (omega arith) c.if-text-at-2.false)
          ∙ c.loop-i.invariant.3,
    )

pub returns : goal.returns
returns c =
    let a = c.args in
    sym (starts_past a.word.now _ c.loop-i.i c.loop-i-test.false) ∙ c.loop-i.invariant.3
