-- `wire::take_whole` meets its contract: each kind is judged as the definition says.
use mathlib.Core.Path.{sym, ap, ◌∙◌}
use Prim.Native.Nat.{◌+◌}
use lib.ListN.{drop}
use Rattle.wire.specs.Records.{record_at}
use Rattle.records.specs.Rules.{headed, cleared}
use Rattle.wire.specs.Reading.{whole_of}
use Rattle.wire.proofs.Bytes.{kind_within, head_is, reset_is, step_is, end_is}
use Rattle.wire.proofs.take_whole.Goals as goal

pub byte_in-requires : goal.byte_in-requires
byte_in-requires c =
    let s = c in
    kind_within c.args.k 1 c.args.at _ c.if-k-eq1.true c.requires.1

pub returns-then-k-eq1 : goal.returns-then-k-eq1
returns-then-k-eq1 c =
    let s = c in
    c.take_head.ensures ∙ ap (headed c.args.at) c.byte_in.ensures.0
    ∙ head_is c.args.bytes.now c.args.at c.args.t c.args.k c.if-k-eq1.true

pub read_guard-requires : goal.read_guard-requires
read_guard-requires c =
    let s = c in
    (c.requires.0, kind_within c.args.k 2 c.args.at _ c.if-k-eq2.true c.requires.1)

pub returns-then-k-eq2 : goal.returns-then-k-eq2
returns-then-k-eq2 c =
    let s = c in
    c.read_guard.ensures ∙ ap (λ k. whole_of c.args.t (record_at c.args.at k (drop (c.args.at + 1) c.args.bytes.now))) (sym c.if-k-eq2.true)

pub byte_in-requires-then-k-eq3 : goal.byte_in-requires-then-k-eq3
byte_in-requires-then-k-eq3 c =
    let s = c in
    kind_within c.args.k 3 c.args.at _ c.if-k-eq3.true c.requires.1

pub returns-then-k-eq3 : goal.returns-then-k-eq3
returns-then-k-eq3 c =
    let s = c in
    c.take_reset.ensures ∙ ap (cleared c.args.t c.args.at) c.byte_in-then-k-eq3.ensures.0
    ∙ reset_is c.args.bytes.now c.args.at c.args.t c.args.k c.if-k-eq3.true

pub returns-then-k-eq4 : goal.returns-then-k-eq4
returns-then-k-eq4 c =
    let s = c in
    c.take_step.ensures ∙ step_is c.args.bytes.now c.args.at c.args.t c.args.k c.if-k-eq4.true

pub returns : goal.returns
returns c =
    let s = c in
    c.take_end.ensures
    ∙ end_is c.args.bytes.now c.args.at c.args.t c.args.k c.if-k-eq1.false c.if-k-eq2.false c.if-k-eq3.false c.if-k-eq4.false
