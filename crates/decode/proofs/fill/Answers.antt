use mathlib.Core.Path.{◌≡◌, sym, subst, ap, ◌∙◌}
use native.Mathlib.Omega.{arith}
use Rattle.decode.proofs.Bytes.{put_1, put_2, put_2_full, put_3, put_3_out, put_4, put_4_full, put_none}
use Prim.Native.Nat.{◌+◌}
use lib.ListN.{drop}
use Rattle.wire.specs.Records.{Record, record_at, records_at}
use Rattle.decode.specs.Fill.{put, filled}
use Rattle.decode.specs.Laws.{filled_on, filled_out}
use Rattle.decode.specs.Few.{Few, few_empty, few_put}
use Rattle.decode.proofs.fill.Goals as goal
use Rattle.decode.proofs.fill.Goals.{After-byte_at-k, Joined-k-eq1}

pub loop-at-init : goal.loop-at-init
loop-at-init c = (
  ap (λ t. filled t (records_at c.args.bytes.now 0)) c.empty_table-t.ensures,
  subst Few (sym c.empty_table-t.ensures) few_empty,
)

-- the record that an iteration reads
abbrev record_here : After-byte_at-k → Record
record_here c =
    record_at c.loop-at.at c.byte_at-k.result (drop (c.loop-at.at + 1) c.args.bytes.now)

-- where the kinds meet again, the table is the one before with the record put in
placed : (c : Joined-k-eq1) → c.if-k-eq1.t ≡ put (record_here (goal.at.Joined-k-eq1 c).After-byte_at-k) c.loop-at.t
placed c = grind (arith, put_1, put_2, put_2_full, put_3, put_3_out, put_4, put_4_full, put_none)

pub loop-at-preserved : goal.loop-at-preserved
loop-at-preserved c =
    let e = placed (goal.at.loop-at-preserved c).Joined-k-eq1 in (
      filled_on c.args.bytes.now c.loop-at.t _ c.loop-at.at _ _ c.loop-at-test.true
          c.byte_at-k.ensures.0 c.body_size.ensures.0 e ∙ c.loop-at.invariant.0,
      subst Few (sym e) (few_put c.loop-at.t c.loop-at.invariant.1 _),
    )

pub returns : goal.returns
returns c =
    sym (filled_out c.args.bytes.now c.loop-at.t c.loop-at.at c.loop-at-test.false)
    ∙ c.loop-at.invariant.0
