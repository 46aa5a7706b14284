use borrow.Author.Rules.{rules}
use mathlib.Core.Path.{◌≡◌, refl, sym, ◌∙◌, ap}
use mathlib.Core.List.{List, ◌++◌}
use Prim.Native.Nat.{ℕ, suc, ◌+◌, ◌-◌, ◌≤◌, ◌<◌}
use native.Mathlib.Omega.{arith}
use native.Mathlib.Numerals.{add-one}
use lib.ListN.{length, get_or, set, take, drop, length-set}
use lib.Seq.{paste-suc}
use Rattle.cards.proofs.copy.Goals as goal

-- a store more: one byte more is copied
more : (room draft l : List ℕ) (i : ℕ) → l ≡ take i draft ++ drop i room → i < length room → i < length draft
    → set l i (get_or draft i 0) ≡ take (i + 1) draft ++ drop (i + 1) room
more room draft l i e h k =
    let z : i ≡ 0 + i = omega arith in
    let n : i + 1 ≡ suc i = add-one i in
    ap (λ m. set m i (get_or draft i 0)) e
    ∙ (λ j. set (take i draft ++ drop (z j) room) (z j) (get_or draft i 0))
    ∙ paste-suc room 0 draft i 0 (omega arith) k
    ∙ (λ j. take (sym n j) draft ++ drop (last j) room)
  where
    last : 0 + suc i ≡ i + 1
    last = omega arith

pub loop-i-init : goal.loop-i-init
loop-i-init c = (search rules, c.requires.0, c.requires.1, refl, refl)

pub loop-i-preserved : goal.loop-i-preserved
loop-i-preserved c =
    let inv = c.loop-i.invariant in
    let room = c.args.room.now in
    let draft = c.args.draft.now in
    let i = c.loop-i.i in (
      search rules,
      inv.1,
      inv.2,
      simp length-set inv.3,
      more room draft _ i inv.4 (omega (arith, c.loop-i-test.true, inv.2)) (omega (arith, c.loop-i-test.true, inv.1)),
    )

pub returns : goal.returns
returns c =
    let inv = c.loop-i.invariant in
    let draft = c.args.draft.now in
    let room = c.args.room.now in
    let all : c.loop-i.i ≡ c.args.n = omega (arith, inv.0, c.loop-i-test.false) in
    inv.4 ∙ ap (λ i. take i draft ++ drop i room) all
