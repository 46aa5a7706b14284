-- `wire::judge` meets its contract: the kind is the byte at the place.
use mathlib.Core.Path.{◌≡◌, sym, ap, ◌∙◌}
use mathlib.Core.List.{List}
use Prim.Native.Nat.{ℕ, ◌+◌}
use lib.ListN.{drop}
use Rattle.records.specs.declared.Tally.{Tally}
use Rattle.wire.specs.Records.{record_at}
use Rattle.wire.specs.Reading.{judge_of}
use Rattle.wire.proofs.judge.Goals as goal

same_kind : (bytes : List ℕ) (at : ℕ) (t : Tally) (k n : ℕ) → k ≡ n
    → judge_of t (record_at at k (drop (at + 1) bytes)) ≡ judge_of t (record_at at n (drop (at + 1) bytes))
same_kind bytes at t k n = ap (λ j. judge_of t (record_at at j (drop (at + 1) bytes)))

pub returns-then-k-eq2 : goal.returns-then-k-eq2
returns-then-k-eq2 c =
    let s = c in
    c.judge_kind.ensures
    ∙ same_kind c.args.bytes.now c.args.at c.args.t 2 _ (sym c.if-k-eq2.true ∙ c.byte_in-k.ensures.0)

pub returns-then-k-eq3 : goal.returns-then-k-eq3
returns-then-k-eq3 c =
    let s = c in
    c.judge_kind-then-k-eq3.ensures
    ∙ same_kind c.args.bytes.now c.args.at c.args.t 3 _ (sym c.if-k-eq3.true ∙ c.byte_in-k.ensures.0)

pub returns : goal.returns
returns c =
    let s = c in
    c.judge_kind-2.ensures
    ∙ same_kind c.args.bytes.now c.args.at c.args.t _ _ c.byte_in-k.ensures.0
