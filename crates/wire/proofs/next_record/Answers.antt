-- `wire::next_record` meets its contract.
use mathlib.Core.Path.{ap, ◌∙◌}
use Prim.Native.Nat.{◌+◌}
use Rattle.records.specs.Rules.{body_size}
use Rattle.wire.proofs.next_record.Goals as goal

pub returns : goal.returns
returns c =
    ap (λ n. c.args.at + 1 + n) (c.body_size.ensures.0 ∙ ap body_size c.byte_in.ensures.0)
