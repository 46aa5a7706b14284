use native.Mathlib.Omega.{arith}
use mathlib.Core.Path.{◌≡◌, refl, sym, ap, ◌∙◌}
use mathlib.Core.List.{List}
use Prim.Native.Nat.{ℕ, ◌+◌}
use lib.ListN.{length, get_or}
use Rattle.records.specs.declared.Tally.{Tally}
use Rattle.records.specs.Rules.{body_size}
use Rattle.wire.specs.Records.{records_at}
use Rattle.wire.specs.Reading.{read_of}
use Rattle.wire.specs.Laws.{onward, check_out, go_on, read_short}
use Rattle.wire.proofs.read_records.Goals as goal
use Rattle.wire.proofs.read_records.Goals.{After-judge-verdict}

pub loop-at-init : goal.loop-at-init
loop-at-init c = (c.requires, sym (read_short _ c.requires))

-- a record is judged
module _ (c : After-judge-verdict) where
  abbrev bytes : List ℕ
  bytes = c.args.bytes.now

  abbrev tally : Tally
  tally = c.loop-at.t

  abbrev at : ℕ
  at = c.loop-at.at

  -- the answer that is due, in terms of the verdict
  due : (next : ℕ) → next ≡ at + 1 + body_size (get_or bytes at 0)
      → onward (length bytes) tally (records_at bytes next) c.judge-verdict.result ≡ read_of bytes
  due next e =
      ap (λ n. onward (length bytes) tally (records_at bytes n) c.judge-verdict.result) e
      ∙ go_on bytes tally at (get_or bytes at 0) (body_size (get_or bytes at 0)) c.judge-verdict.result c.loop-at-test.true c.judge-verdict.ensures
      refl refl c.loop-at.invariant.1

pub returns-in-Refused : goal.returns-in-Refused
returns-in-Refused c = ap (onward _ c.loop-at.t _) (sym c.in-Refused.is) ∙ due (goal.at.returns-in-Refused c).After-judge-verdict _ refl

pub returns-in-Last : goal.returns-in-Last
returns-in-Last c =
    c.after_end.ensures ∙ ap (onward _ c.loop-at.t _) (sym c.in-Last.is)
    ∙ due (goal.at.returns-in-Last c).After-judge-verdict _ c.next_record.ensures

pub loop-at-smaller : goal.loop-at-smaller
loop-at-smaller c = omega (arith, c.next_record-at.ensures, c.loop-at-test.true)

pub loop-at-preserved : goal.loop-at-preserved
loop-at-preserved c =
    let s = c in (
      c.loop-at.invariant.0,
      ap (onward _ c.loop-at.t _) (sym c.in-Next.is) ∙ due (goal.at.loop-at-preserved c).After-judge-verdict _ c.next_record-at.ensures,
    )

pub returns : goal.returns
returns c =
    sym (check_out c.args.bytes.now c.loop-at.t c.loop-at.at _ c.loop-at-test.false)
    ∙ c.loop-at.invariant.1
