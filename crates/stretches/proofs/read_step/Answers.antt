use borrow.Author.Rules.{rules}
use native.Mathlib.Omega.{arith}
use mathlib.Core.Path.{◌≡◌, sym, ap, subst, ◌∙◌}
use mathlib.Core.List.{List}
use mathlib.Core.Bool.{false}
use Prim.Native.Nat.{ℕ, ◌+◌, ◌<◌}
use lib.ListN.{length, get_or}
use Rattle.records.specs.declared.Tally.{Tally}
use Rattle.records.specs.Rules.{body_size}
use Rattle.wire.specs.Records.{Bytes}
use Rattle.stretches.specs.declared.Part.TheVariants as part
use Rattle.stretches.specs.Parts.{stands_between, Reads}
use Rattle.stretches.specs.Steps.{UpTo, up_to_begin, ends_out, stops_astray, ends_refused, no_last, up_to_next, ends_done}
use Rattle.stretches.proofs.read_step.Goals as goal
use Rattle.stretches.proofs.read_step.Goals.{After-judge-verdict}

pub loop-at-init : goal.loop-at-init
loop-at-init c = up_to_begin _ _ _ _ c.requires

pub returns-then-is_between : goal.returns-then-is_between
returns-then-is_between c =
    let l = c.loop-at in
    stops_astray _ _ _ _ l.at l.t l.invariant c.loop-at-test.true
    _ c.byte_in-k.ensures.0
    (sym c.is_between.ensures ∙ c.if-is_between.true)
    _ c.unfinished.ensures _ c.stop.ensures

pub overflow_add-next : goal.overflow_add-next
overflow_add-next c = let h = c.loop-at.invariant.limits in search rules

pub judge-verdict-requires : goal.judge-verdict-requires
judge-verdict-requires c = (c.loop-at-test.true, c.loop-at.invariant.limits.short)

-- a record of the step is judged
module _ (c : After-judge-verdict) where
  abbrev bytes : List ℕ
  bytes = c.args.bytes.now

  abbrev at : ℕ
  at = c.loop-at.at

  abbrev tally : Tally
  tally = c.loop-at.t

  abbrev from : ℕ
  from = c.args.from

  abbrev tally₀ : Tally
  tally₀ = c.args.tally

  abbrev depth : ℕ
  depth = c.args.depth

  before : UpTo bytes from tally₀ depth at tally
  before = c.loop-at.invariant

  abbrev here : at < length bytes
  here = c.loop-at-test.true

  abbrev kind : c.byte_in-k.result ≡ get_or bytes at 0
  kind = c.byte_in-k.ensures.0

  small : Bytes bytes
  small i = omega (arith, c.type_inv.bytes i)

  own : stands_between (get_or bytes at 0) ≡ false
  own =
      ap stands_between (sym kind) ∙ sym c.is_between.ensures ∙ c.if-is_between.false

  next_is : at + 1 + c.body_size.result ≡ at + 1 + body_size (get_or bytes at 0)
  next_is = ap (λ n. at + 1 + n) (c.body_size.ensures.0 ∙ ap body_size kind)

pub returns-in-Refused : goal.returns-in-Refused
returns-in-Refused c =
    ends_refused _ _ _ _ (at (goal.at.returns-in-Refused c).After-judge-verdict) (tally (goal.at.returns-in-Refused c).After-judge-verdict) (before (goal.at.returns-in-Refused c).After-judge-verdict) (here (goal.at.returns-in-Refused c).After-judge-verdict) (small (goal.at.returns-in-Refused c).After-judge-verdict) (own (goal.at.returns-in-Refused c).After-judge-verdict) _ c.judge-verdict.ensures _ c.in-Refused.is

pub returns-in-Last : goal.returns-in-Last
returns-in-Last c =
    absurd (no_last _ _ _ _ (at (goal.at.returns-in-Last c).After-judge-verdict) (tally (goal.at.returns-in-Last c).After-judge-verdict) (before (goal.at.returns-in-Last c).After-judge-verdict) (here (goal.at.returns-in-Last c).After-judge-verdict) (small (goal.at.returns-in-Last c).After-judge-verdict) (own (goal.at.returns-in-Last c).After-judge-verdict) _ c.judge-verdict.ensures c.in-Last.is)

pub returns-then-k-eq4 : goal.returns-then-k-eq4
returns-then-k-eq4 c =
    subst (λ n. Reads (bytes (goal.at.returns-then-k-eq4 c).After-judge-verdict) (tally₀ (goal.at.returns-then-k-eq4 c).After-judge-verdict) (from (goal.at.returns-then-k-eq4 c).After-judge-verdict) (depth (goal.at.returns-then-k-eq4 c).After-judge-verdict) (λ stack. stack) (part.Read c.in-Next.u n)) (sym (next_is (goal.at.returns-then-k-eq4 c).After-judge-verdict))
    (ends_done _ _ _ _ (at (goal.at.returns-then-k-eq4 c).After-judge-verdict) (tally (goal.at.returns-then-k-eq4 c).After-judge-verdict) (before (goal.at.returns-then-k-eq4 c).After-judge-verdict) (here (goal.at.returns-then-k-eq4 c).After-judge-verdict) (small (goal.at.returns-then-k-eq4 c).After-judge-verdict) (own (goal.at.returns-then-k-eq4 c).After-judge-verdict) _ c.judge-verdict.ensures _ c.in-Next.is
    (sym (kind (goal.at.returns-then-k-eq4 c).After-judge-verdict) ∙ c.if-k-eq4.true))

pub loop-at-preserved : goal.loop-at-preserved
loop-at-preserved c =
    subst (λ n. UpTo (bytes (goal.at.loop-at-preserved c).After-judge-verdict) (from (goal.at.loop-at-preserved c).After-judge-verdict) (tally₀ (goal.at.loop-at-preserved c).After-judge-verdict) (depth (goal.at.loop-at-preserved c).After-judge-verdict) n c.in-Next.u) (sym (next_is (goal.at.loop-at-preserved c).After-judge-verdict))
    (up_to_next _ _ _ _ (at (goal.at.loop-at-preserved c).After-judge-verdict) (tally (goal.at.loop-at-preserved c).After-judge-verdict) (before (goal.at.loop-at-preserved c).After-judge-verdict) (here (goal.at.loop-at-preserved c).After-judge-verdict) (small (goal.at.loop-at-preserved c).After-judge-verdict) (own (goal.at.loop-at-preserved c).After-judge-verdict) _ c.judge-verdict.ensures _ c.in-Next.is
    (λ e. c.if-k-eq4.false (kind (goal.at.loop-at-preserved c).After-judge-verdict ∙ e)))

pub returns : goal.returns
returns c =
    let l = c.loop-at in
    subst (Reads _ _ _ _ (λ stack. stack)) (sym c.stop-2.ensures) (ends_out _ _ _ _ l.at l.t l.invariant c.loop-at-test.false)
