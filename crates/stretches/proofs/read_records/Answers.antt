use mathlib.Core.Path.{◌≡◌, refl, sym, ap, ◌∙◌}
use mathlib.Core.List.{List}
use mathlib.Core.Bool.{Bool}
use Prim.Native.Nat.{ℕ, ◌+◌, ◌<◌}
use lib.ListN.{length, get_or}
use Rattle.records.specs.Rules.{body_size, within}
use Rattle.wire.specs.Records.{Bytes}
use Rattle.records.specs.declared.Tally.{Tally}
use Rattle.stretches.specs.Outside.{UpTo, runs_out, comes_to, is_refused, is_last, is_next, last_other, next_other}
use native.Mathlib.Omega.{arith}
use Rattle.stretches.proofs.read_records.Goals as goal
use Rattle.stretches.proofs.read_records.Goals.{After-body_size}

pub loop-at-init : goal.loop-at-init
loop-at-init c = record { limits = c.requires; past = omega arith; same = refl; plain_same = refl; first_same = refl }

pub judge-verdict-requires : goal.judge-verdict-requires
judge-verdict-requires c = (c.loop-at-test.true, c.loop-at.invariant.limits.short)

pub overflow_add-next : goal.overflow_add-next
overflow_add-next c = let h = c.loop-at.invariant.limits in record { fits = omega (arith, h.short, c.loop-at-test.true) }

-- a record is judged, and its kind and the size of its body are read
module _ (c : After-body_size) where
  abbrev bytes : List ℕ
  bytes = c.args.bytes.now

  abbrev from : ℕ
  from = c.args.from

  abbrev tally₀ : Tally
  tally₀ = c.args.tally

  abbrev at : ℕ
  at = c.loop-at.at

  abbrev tally : Tally
  tally = c.loop-at.t

  before : UpTo bytes from tally₀ at tally
  before = c.loop-at.invariant

  here : at < length bytes
  here = c.loop-at-test.true

  abbrev k : ℕ
  k = c.byte_in-k.result

  kind : k ≡ get_or bytes at 0
  kind = c.byte_in-k.ensures.0

  tested : (b : Bool) → b ≡ within 7 k 8 → within 7 (get_or bytes at 0) 8 ≡ b
  tested b e = ap (λ n. within 7 n 8) (sym kind) ∙ sym e

  small : Bytes bytes
  small i = omega (arith, c.type_inv.bytes i)

  next_is : at + 1 + c.body_size.result ≡ at + 1 + body_size (get_or bytes at 0)
  next_is = ap (λ n. at + 1 + n) (c.body_size.ensures.0 ∙ ap body_size kind)

pub returns-then-between : goal.returns-then-between
returns-then-between c =
    let s = c in
    comes_to (bytes (goal.at.returns-then-between c).After-body_size) _ _ (at (goal.at.returns-then-between c).After-body_size) (tally (goal.at.returns-then-between c).After-body_size) (before (goal.at.returns-then-between c).After-body_size) (here (goal.at.returns-then-between c).After-body_size) (tested (goal.at.returns-then-between c).After-body_size _ c.between.ensures ∙ c.if-between.true)

pub returns-in-Refused : goal.returns-in-Refused
returns-in-Refused c =
    let s = c in
    is_refused (bytes (goal.at.returns-in-Refused c).After-body_size) _ _ (at (goal.at.returns-in-Refused c).After-body_size) (tally (goal.at.returns-in-Refused c).After-body_size) (before (goal.at.returns-in-Refused c).After-body_size) (here (goal.at.returns-in-Refused c).After-body_size) (tested (goal.at.returns-in-Refused c).After-body_size _ c.between.ensures ∙ c.if-between.false) _ c.judge-verdict.ensures _ c.in-Refused.is

pub returns-in-Last : goal.returns-in-Last
returns-in-Last c =
    let s = c in
    let is = c.judge-verdict.ensures in
    let e = c.in-Last.is in
    is_last (bytes (goal.at.returns-in-Last c).After-body_size) _ _ (at (goal.at.returns-in-Last c).After-body_size) (tally (goal.at.returns-in-Last c).After-body_size) (before (goal.at.returns-in-Last c).After-body_size) (here (goal.at.returns-in-Last c).After-body_size) (last_other (bytes (goal.at.returns-in-Last c).After-body_size) (small (goal.at.returns-in-Last c).After-body_size) (at (goal.at.returns-in-Last c).After-body_size) (tally (goal.at.returns-in-Last c).After-body_size) (before (goal.at.returns-in-Last c).After-body_size).limits.room _ is e) _ is _ (next_is (goal.at.returns-in-Last c).After-body_size) e _
    c.after_end.ensures

pub loop-at-smaller : goal.loop-at-smaller
loop-at-smaller c =
    let s = c in
    omega (arith, here (goal.at.loop-at-smaller c).After-body_size, next_is (goal.at.loop-at-smaller c).After-body_size)

pub loop-at-preserved : goal.loop-at-preserved
loop-at-preserved c =
    let s = c in
    let is = c.judge-verdict.ensures in
    let e = c.in-Next.is in
    is_next (bytes (goal.at.loop-at-preserved c).After-body_size) (from (goal.at.loop-at-preserved c).After-body_size) (tally₀ (goal.at.loop-at-preserved c).After-body_size) (at (goal.at.loop-at-preserved c).After-body_size) (tally (goal.at.loop-at-preserved c).After-body_size) (before (goal.at.loop-at-preserved c).After-body_size) (here (goal.at.loop-at-preserved c).After-body_size) (next_other (bytes (goal.at.loop-at-preserved c).After-body_size) (small (goal.at.loop-at-preserved c).After-body_size) (at (goal.at.loop-at-preserved c).After-body_size) (tally (goal.at.loop-at-preserved c).After-body_size) (before (goal.at.loop-at-preserved c).After-body_size).limits.room _ _ is e) _ is (small (goal.at.loop-at-preserved c).After-body_size) _ _ (next_is (goal.at.loop-at-preserved c).After-body_size) e

pub returns : goal.returns
returns c =
    let l = c.loop-at in
    runs_out _ _ _ l.at l.t l.invariant c.loop-at-test.false
